use Rattle.std.proofs.Common.{arith}
use Rattle.std.proofs.lemmas.Grind.{common_steps}
use Rattle.checking.proofs.Fronts.{fault_short}
use Rattle.checking.proofs.fault.FaultLine.write.Goals as goal

pub unwrap-requires : goal.unwrap-requires
unwrap-requires c =
    let f = c.args.self in
    grind (arith, common_steps, fault_short f.text f.number f.line f.field (omega arith) (omega arith) (omega arith), c.save.ensures.saved.answer)
