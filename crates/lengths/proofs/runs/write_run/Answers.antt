use Rattle.std.proofs.Common.{◌≡◌, ◌+◌, ◌-◌, ◌<◌, length, get_or, set, Some, Option, subst, arith, MatchOption}
use Rattle.std.proofs.lemmas.List.{length-set}
use Rattle.std.proofs.lemmas.Bool.{some_since}
use Rattle.map.proofs.Moves.{well_formed}
use Rattle.lengths.proofs.Drawn.{drawing_none, drawing_more, drawing_all}
use Rattle.lengths.proofs.runs.write_run.Goals as goal

value_of : {T : Type 0} (o : Option T) (P : Type 0) (Q : T → Type 0) (t : T) → o ≡ Some t → MatchOption o P Q → Q t
value_of o P Q t e c = subst (λ o. MatchOption o P Q) e c

pub loop-i-init : goal.loop-i-init
loop-i-init g c = drawing_none c.args.run.now c.requires.state (omega arith)

pub unwrap-at-requires : goal.unwrap-at-requires
unwrap-at-requires g c =
    let n = get_or c.args.work.now c.args.s 0 in
    let i = c.loop-i.i in
    let e : get_or c.args.work.now c.loop-i.at 0 ≡ n - i - 1 + 1 = omega (arith, c.loop-i.invariant.here) in
    let x = c.requires.falls c.loop-i.at (n - i - 1) c.loop-i.invariant.state (omega arith) e in
    some_since _ _ _ c.step_to.ensures (λ off. off x.0 x.1 x.2)

pub loop-i-preserved : goal.loop-i-preserved
loop-i-preserved g c =
    let l : c.loop-i.i + 1 < length (set c.args.run.now 0 c.args.s) = simp length-set (omega arith) in
    let step = value_of c.step_to.result _ _ c.unwrap-at.result c.unwrap-at.ensures c.step_to.ensures in
    drawing_more (well_formed g.M.L.Look.sign _ (g.M.Map.bounded c.args.map.now)) c.loop-i.invariant l step.0 (omega (arith, step.1, c.loop-i.invariant.here))

pub returns : goal.returns
returns g c = drawing_all c.loop-i.invariant (omega arith)
