use Rattle.std.proofs.Common.{◌+◌, ◌*◌, Some, sym, ap, ◌∙◌, arith}
use Rattle.map.proofs.Count.{never_none}
use Rattle.std.proofs.lemmas.Option.{slice_get_past}
use Rattle.joint.specs.Pairs.{joint}
use Rattle.joint.proofs.Lists.{entry_at, reading_at}
use Rattle.joint.proofs.answers.JointMapMap.entry.Goals as goal

pub returns-then-k-list_len : goal.returns-then-k-list_len
returns-then-k-list_len g c =
    let m = c.args.self.now in
    sym (slice_get_past ((joint m.fault (g.A.Map.meaning m.left) (g.B.Map.meaning m.right)).list c.args.s) c.args.k (omega (arith, c.list_len.ensures)))

pub nonzero_div-k : goal.nonzero_div-k
nonzero_div-k g c =
    let m = c.args.self.now in
    let t = entry_at m.fault _ _ (g.A.Map.bounded m.left) (g.B.Map.bounded m.right) c.args.s c.args.k _ _ _ c.size-n.ensures c.list_len-w.ensures c.list_len.ensures c.if-k-list_len.false in
    t.width

pub nonzero_rem-k : goal.nonzero_rem-k
nonzero_rem-k g c =
    let m = c.args.self.now in
    let t = entry_at m.fault _ _ (g.A.Map.bounded m.left) (g.B.Map.bounded m.right) c.args.s c.args.k _ _ _ c.size-n.ensures c.list_len-w.ensures c.list_len.ensures c.if-k-list_len.false in
    t.width

pub returns-in_err-left : goal.returns-in_err-left
returns-in_err-left g c =
    let m = c.args.self.now in
    let t = entry_at m.fault _ _ (g.A.Map.bounded m.left) (g.B.Map.bounded m.right) c.args.s c.args.k _ _ _ c.size-n.ensures c.list_len-w.ensures c.list_len.ensures c.if-k-list_len.false in
    never_none _ (sym t.left ∙ sym c.in_err-left.ensures)

pub returns-in_err-right : goal.returns-in_err-right
returns-in_err-right g c =
    let m = c.args.self.now in
    let t = entry_at m.fault _ _ (g.A.Map.bounded m.left) (g.B.Map.bounded m.right) c.args.s c.args.k _ _ _ c.size-n.ensures c.list_len-w.ensures c.list_len.ensures c.if-k-list_len.false in
    never_none _ (sym t.right ∙ sym c.in_err-right.ensures)

pub number_of-requires : goal.number_of-requires
number_of-requires g c =
    let m = c.args.self.now in
    let t = entry_at m.fault _ _ (g.A.Map.bounded m.left) (g.B.Map.bounded m.right) c.args.s c.args.k _ _ _ c.size-n.ensures c.list_len-w.ensures c.list_len.ensures c.if-k-list_len.false in
    let u = reading_at m.fault _ _ c.args.s c.args.k _ _ t _ _ c.in_ok-left.ensures c.in_ok-right.ensures in
    (u.left_few, u.right_few)

pub returns : goal.returns
returns g c =
    let m = c.args.self.now in
    let t = entry_at m.fault _ _ (g.A.Map.bounded m.left) (g.B.Map.bounded m.right) c.args.s c.args.k _ _ _ c.size-n.ensures c.list_len-w.ensures c.list_len.ensures c.if-k-list_len.false in
    let u = reading_at m.fault _ _ c.args.s c.args.k _ _ t _ _ c.in_ok-left.ensures c.in_ok-right.ensures in
    ap Some (c.number_of.ensures ∙ sym (ap (λ n. c.in_ok-left.left * n + c.in_ok-right.right) c.size-n.ensures)) ∙ u.value
