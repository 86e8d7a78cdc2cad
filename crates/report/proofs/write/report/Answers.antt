use Rattle.std.proofs.Common.{arith}
use Rattle.map.specs.Meaning.{structure}
use Rattle.session.specs.Sessions.{state}
use Rattle.report.proofs.Saving.{collected, given, fits}
use Rattle.report.proofs.write.report.Goals as goal

pub returns : goal.returns
returns g c =
    let k = structure g.M.L.Look.sign (g.M.Map.meaning c.args.map.now) in
    let x = c.args.session.now in
    let p = collected k (state x) c.args.sheet.now c.args.out.now c.save_report.new.out c.save_report.result c.marked-n.result c.collect.new.finds c.marked-n.ensures (omega arith) c.collect.ensures c.save_report.ensures in
    record {
      reports = given k (state x) c.args.sheet.now _ _ _ (omega arith) p;
      fits = fits k (state x) c.args.sheet.now _ _ _ (g.M.Map.bounded c.args.map.now).size_fits (omega (arith, x.within, x.rules.few)) p;
    }
