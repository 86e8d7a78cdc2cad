use Rattle.map.specs.Meaning.{structure}
use Rattle.map.proofs.Moves.{well_formed}
use Rattle.marking.proofs.Labels.{timed_row}
use Rattle.marking.proofs.rows.satisfied.Goals as goal

pub returns-in-Until : goal.returns-in-Until
returns-in-Until g c =
    let m = g.M.Map.meaning c.args.map.now in
    let fits = g.M.Map.bounded c.args.map.now in
    timed_row (structure g.M.L.Look.sign m) c.args.sheet.now c.args.work.now (well_formed g.M.L.Look.sign m fits) fits.size_fits c.args.row c.in-Until.field-0 c.in-Until.field-1 c.in-Until.is c.args.s c.requires.state c.requires.timed
