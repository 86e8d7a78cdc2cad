use Rattle.std.proofs.Common.{◌<◌, length, sym, arith, rules}
use Rattle.rules.proofs.Order.{ordered_set}
use Rattle.rules.proofs.list.RuleList.add.Goals as goal

pub invariant_of-self : goal.invariant_of-self
invariant_of-self c =
    let m = c.args.self.now in
    let l : m.len < length m.rows = omega (arith, m.long) in
    record { long = search rules; few = search rules; earlier = ordered_set m.rows m.len c.args.row l (sym c.if-not-names_below.ensures) m.earlier }
