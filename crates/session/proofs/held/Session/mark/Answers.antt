use Rattle.std.proofs.Common.{arith}
use Rattle.calls.proofs.Given.{mark_given}
use Rattle.lengths.specs.Sheets.{by_sheet}
use Rattle.map.proofs.Moves.{well_formed}
use Rattle.stl.proofs.Rows.{reach_below}
use Rattle.session.proofs.RowFacts.{rows_long, row_there}
use Rattle.session.proofs.held.Session.mark.Goals as goal

pub mark_row-reach-requires : goal.mark_row-reach-requires
mark_row-reach-requires g c =
    let x = c.args.self.now in
    let t = row_there x.rules x.marked c.in-Some.row c.in-Some.ensures in
    record { bit = omega (arith, t.below, t.few); words = omega (arith, (g.M.Map.bounded c.args.map.now).size_fits); earlier = t.names }

pub returns : goal.returns
returns g c =
    let x = c.args.self.now in
    let t = row_there x.rules x.marked c.in-Some.row c.in-Some.ensures in
    let marked = c.mark_row-reach.ensures in
    record {
      gives = mark_given (omega arith) t.below t.is marked.labels marked.reach;
      below = reach_below _ (by_sheet c.args.sheet.now) (well_formed g.M.L.Look.sign _ (g.M.Map.bounded c.args.map.now)) _ _ marked.reach;
    }
