use Rattle.std.proofs.Common.{◌≡◌, take}
use Rattle.sharing.specs.Chains.{chained}
use Rattle.fold.proofs.chain.write_chain.Given as goal

abbrev pub invariant-loop-i : goal.invariant-loop-i
invariant-loop-i l = take l.i l.out ≡ take l.i (chained l.first l.second)
