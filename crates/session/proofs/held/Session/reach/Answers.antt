use Rattle.std.proofs.Common.{sym, subst, arith}
use Rattle.lengths.specs.Sheets.{by_sheet}
use Rattle.map.proofs.Moves.{well_formed}
use Rattle.map.specs.Meaning.{structure}
use Rattle.stl.specs.Rows.{Reach}
use Rattle.session.proofs.Reaching.{no_reach, reach_given}
use Rattle.session.specs.Sessions.{state}
use Rattle.session.proofs.held.Session.reach.Goals as goal

pub returns-in_default : goal.returns-in_default
returns-in_default g c =
    let formed = well_formed g.M.L.Look.sign _ (g.M.Map.bounded c.args.map.now) in
    reach_given (state c.args.self.now) c.args.sheet.now c.args.r 0 formed (omega arith) (omega arith) (no_reach _ _ _ c.in_default.ensures)

pub returns : goal.returns
returns g c =
    let m = g.M.Map.meaning c.args.map.now in
    let formed = well_formed g.M.L.Look.sign m (g.M.Map.bounded c.args.map.now) in
    reach_given (state c.args.self.now) c.args.sheet.now c.args.r c.lengths.result formed (omega arith) (omega arith)
    (subst (λ row. Reach (structure g.M.L.Look.sign m) (by_sheet c.args.sheet.now) row c.lengths.result) (sym c.in-Some.ensures) c.lengths.ensures.greatest)
