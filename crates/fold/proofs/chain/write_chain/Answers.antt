use Rattle.std.proofs.Common.{arith}
use Rattle.fold.proofs.Chaining.{chained_more}
use Rattle.fold.proofs.chain.write_chain.Goals as goal

pub loop-i-preserved : goal.loop-i-preserved
loop-i-preserved c = chained_more c.args.first.now c.args.second.now c.loop-i.out c.loop-i.i (omega arith) (omega arith) c.loop-i.invariant
