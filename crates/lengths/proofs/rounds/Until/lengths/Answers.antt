use Rattle.std.proofs.Common.{◌+◌, ◌≤◌, arith}
use Rattle.map.proofs.Moves.{well_formed}
use Rattle.stl.proofs.Shortest.{greatest_below}
use Rattle.lengths.proofs.Filling.{running_more, running_small, running_filled, running_greatest}
use Rattle.lengths.proofs.rounds.Until.lengths.Goals as goal

pub one_round-requires : goal.one_round-requires
one_round-requires g c =
    let fits = g.M.Map.bounded c.args.self.now.map.now in
    let d = running_small (well_formed g.M.L.Look.sign _ fits) c.loop-d.invariant in
    record { entries = omega arith; small = omega (arith, d, fits.size_fits); round = c.loop-d.invariant.round }

pub overflow_add-d : goal.overflow_add-d
overflow_add-d g c =
    let fits = g.M.Map.bounded c.args.self.now.map.now in
    let l : c.loop-d.d ≤ 4096 = omega (arith, running_small (well_formed g.M.L.Look.sign _ fits) c.loop-d.invariant, fits.size_fits) in
    omega arith

pub loop-d-smaller : goal.loop-d-smaller
loop-d-smaller g c =
    let fits = g.M.Map.bounded c.args.self.now.map.now in
    let more = running_more c.loop-d.invariant c.loop-d-test.ensures in
    let d : c.loop-d.d + 1 ≤ (g.M.Map.meaning c.args.self.now.map.now).size = running_small (well_formed g.M.L.Look.sign _ fits) more in
    omega arith

pub returns : goal.returns
returns g c =
    let shut = well_formed g.M.L.Look.sign _ (g.M.Map.bounded c.args.self.now.map.now) in
    let swept = c.loop-d-test.ensures in
    let most = running_greatest shut c.loop-d.invariant swept in
    record {
      filled = running_filled shut c.first_round.ensures c.loop-d.invariant swept;
      greatest = most;
      below = greatest_below _ _ _ shut _ most;
    }
