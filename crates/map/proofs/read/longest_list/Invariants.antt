use Rattle.std.proofs.Common.{◌≡◌, length}
use Rattle.map.specs.Counts.{greatest}
use Rattle.map.proofs.read.longest_list.Given as goal

abbrev pub invariant-loop-s : goal.invariant-loop-s
invariant-loop-s g l = l.most ≡ greatest (λ s. length ((g.M.Map.meaning l.map).list s)) l.s
