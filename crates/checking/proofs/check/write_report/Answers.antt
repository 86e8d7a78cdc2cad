use Rattle.std.proofs.Common.{subst}
use Rattle.map.proofs.Moves.{well_formed}
use Rattle.map.specs.Meaning.{structure}
use Rattle.report.specs.Reports.{Reports}
use Rattle.session.specs.Sessions.{state}
use Rattle.checking.proofs.Logic.{by_logic_told}
use Rattle.checking.proofs.check.write_report.Goals as goal

pub returns : goal.returns
returns g c =
    let m = g.M.Map.meaning c.args.map.now in
    let k = structure g.M.L.Look.sign m in
    by_logic_told k (well_formed g.M.L.Look.sign m (g.M.Map.bounded c.args.map.now)) (state c.args.session.now).rows _ _ _ _ c.mark_all.ensures c.unwrap.result
    (subst (Reports k (state c.mark_all.new.session) c.mark_all.new.sheet c.args.out.now c.report.new.out) c.unwrap.ensures c.report.ensures.reports)
