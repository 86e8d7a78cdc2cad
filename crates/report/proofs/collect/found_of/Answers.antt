use Rattle.map.specs.Meaning.{structure}
use Rattle.session.specs.Sessions.{state}
use Rattle.report.proofs.Asking.{found_in}
use Rattle.report.proofs.collect.found_of.Goals as goal

pub returns : goal.returns
returns g c =
    found_in (structure g.M.L.Look.sign (g.M.Map.meaning c.args.map.now)) (state c.args.session.now) c.args.sheet.now c.args.r c.requires.words c.requires.marked
    c.unwrap.result c.unwrap-2.result c.unwrap.ensures c.unwrap-2.ensures c.verdict.ensures c.reach.ensures
