use Rattle.std.proofs.Common.{◌+◌, ◌<◌, ◌≤◌, length, arith}
use Rattle.std.proofs.lemmas.Bool.{both_ways}
use Rattle.map.proofs.Moves.{well_formed}
use Rattle.lengths.proofs.Sweeps.{sweep_on, sweep_give, sweep_past, swept_as}
use Rattle.lengths.proofs.Words.{no_word}
use Rattle.lengths.proofs.rounds.Until.one_round.Goals as goal
use Rattle.lengths.proofs.rounds.Until.one_round.Goals.{then-due, else-due}

pub loop-s-preserved : goal.loop-s-preserved
loop-s-preserved g c =
    let size = (g.M.Map.meaning c.args.self.now.map.now).size in
    let shut = well_formed g.M.L.Look.sign _ (g.M.Map.bounded c.args.self.now.map.now) in
    let small : c.args.d + 1 < 4294967295 = omega arith in
    let state : c.loop-s.s < size = omega arith in
    let room : size ≤ length c.loop-s.work = omega arith in
    elim c.if-due.branch [
      | then-due w ↦ swept_as w.work-is w.found-is (sweep_give shut small c.loop-s.invariant state room (c.due.ensures.0 w.if-due.true))
      | else-due w ↦ swept_as w.work-is w.found-is (sweep_on shut small c.loop-s.invariant state (λ due. both_ways _ w.if-due.false (c.due.ensures.1 due)))
    ]

pub returns : goal.returns
returns g c =
    let size = (g.M.Map.meaning c.args.self.now.map.now).size in
    let shut = well_formed g.M.L.Look.sign _ (g.M.Map.bounded c.args.self.now.map.now) in
    let small : c.args.d + 1 < 4294967295 = omega arith in
    sweep_past shut small c.loop-s.invariant (λ s h b. no_word c.args.self.now.sheet.now c.args.self.now.a s (omega arith))
