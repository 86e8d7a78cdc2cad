use Rattle.std.proofs.Common.{arith}
use Rattle.std.proofs.lemmas.Nat.{mul-le}
use Rattle.joint.proofs.Caps.{longest_fits}
use Rattle.joint.proofs.pair.pair_fault.Goals as goal

pub overflow_mul-longest_list : goal.overflow_mul-longest_list
overflow_mul-longest_list g c =
    let a = longest_fits _ (g.A.Map.bounded c.args.left.now) in
    let b = longest_fits _ (g.B.Map.bounded c.args.right.now) in
    omega (arith, mul-le c.longest_list.result c.longest_list-2.result 32768 32768 (omega arith) (omega arith))
