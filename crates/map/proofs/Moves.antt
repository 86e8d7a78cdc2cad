-- Entries of lists and moves. Assumes nothing.
use Rattle.std.proofs.Common.{ℕ, ◌<◌, Bool, subst}
use Rattle.stl.specs.Structures.{WellFormed}
use Rattle.map.specs.Meaning.{Meaning, Bounded, structure}

-- starts and targets are states
pub well_formed : {L : Type 0} (sign : L → ℕ → Bool) (m : Meaning L) → Bounded m → WellFormed (structure sign m)
well_formed sign m b = record {
  starts = b.starts_fit;
  targets = λ s t h move. subst (λ n. n < m.size) move.2 (b.targets_fit s move.0 move.1);
}
