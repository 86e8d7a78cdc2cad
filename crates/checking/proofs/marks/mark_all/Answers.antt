use Rattle.std.proofs.Common.{length, ap, ◌∙◌, arith}
use Rattle.calls.proofs.Keeping.{kept_after}
use Rattle.calls.specs.Answers.{State}
use Rattle.calls.specs.Effects.{alone}
use Rattle.map.proofs.Moves.{well_formed}
use Rattle.map.specs.Meaning.{structure}
use Rattle.session.specs.Sessions.{state}
use Rattle.checking.proofs.Marking.{one_more, none_left}
use Rattle.checking.proofs.marks.mark_all.Goals as goal

pub loop-smaller : goal.loop-smaller
loop-smaller g c =
    let k = structure g.M.L.Look.sign (g.M.Map.meaning c.args.map.now) in
    let m = one_more k (state c.loop.session) (state c.mark.new.self) c.loop.sheet _ _ _ c.in-Ok.ensures.gives in
    omega (arith, m.left, ap length m.same, m.one)

pub loop-preserved : goal.loop-preserved
loop-preserved g c =
    let map = c.args.map.now in
    let k = structure g.M.L.Look.sign (g.M.Map.meaning map) in
    let st = state c.loop.session in
    let sheet = c.loop.sheet in
    let gives = c.in-Ok.ensures.gives in (
      kept_after k (well_formed g.M.L.Look.sign (g.M.Map.meaning map) (g.M.Map.bounded map)) st (alone sheet) c.loop.invariant.0 _ _ _ _ gives,
      (one_more k st (state c.mark.new.self) sheet _ _ _ gives).same ∙ c.loop.invariant.1,
    )

pub returns : goal.returns
returns g c =
    let map = c.args.map.now in
    let k = structure g.M.L.Look.sign (g.M.Map.meaning map) in
    let st = state c.loop.session in
    let sheet = c.loop.sheet in
    let gives = c.in_default.ensures.gives in
    let p = none_left k st (state c.mark.new.self) sheet _ _ c.loop.invariant.0.fits gives in
    let rows = c.loop.invariant.1 in
    record {
      same = ap (λ (x : State). x.rows) p.0 ∙ rows;
      all = omega (arith, ap (λ (x : State). x.marked) p.0, ap length rows, p.1, c.loop.invariant.0.counted);
      kept = kept_after k (well_formed g.M.L.Look.sign (g.M.Map.meaning map) (g.M.Map.bounded map)) st (alone sheet) c.loop.invariant.0 _ _ _ _ gives;
    }
