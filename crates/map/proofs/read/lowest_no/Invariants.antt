use Rattle.std.proofs.Common.{ℕ, ◌<◌, true}
use Rattle.map.proofs.read.lowest_no.Given as goal

abbrev pub invariant-loop-i : goal.invariant-loop-i
invariant-loop-i g l = (j : ℕ) → j < l.i → goal.P-post g l.answer j true
