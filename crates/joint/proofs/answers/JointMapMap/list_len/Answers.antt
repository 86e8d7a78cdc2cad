use Rattle.std.proofs.Common.{◌≡◌, ◌*◌, ◌/◌, ◌%◌, ◌<◌, length, sym, ap, ◌∙◌, ap₂, arith, rules}
use Rattle.joint.specs.Pairs.{joint_size}
use Rattle.joint.proofs.Lists.{list_long}
use Rattle.joint.proofs.answers.JointMapMap.list_len.Goals as goal

pub returns : goal.returns
returns g c =
    let m = c.args.self.now in
    let a = g.A.Map.meaning m.left in
    let b = g.B.Map.meaning m.right in
    let s = c.args.s in
    let l : s < joint_size m.fault a.size b.size = search rules in
    let p : c.list_len.result * c.list_len-2.result ≡ length (a.list (s / b.size)) * length (b.list (s % b.size)) =
    ap₂ (λ x y. x * y) (c.list_len.ensures ∙ ap (λ n. length (a.list (s / n))) c.size-n.ensures) (c.list_len-2.ensures ∙ ap (λ n. length (b.list (s % n))) c.size-n.ensures) in
    sym (list_long m.fault a b s l ∙ omega (arith, p, c.min.ensures))
