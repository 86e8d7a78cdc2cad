-- What an entry of a filled table says. Assumes nothing.
use Rattle.std.proofs.Common.{◌≡◌, ℕ, ◌<◌, ◌≤◌, List, inl, inr, arith}
use Rattle.stl.specs.Structures.{Structure, WellFormed}
use Rattle.stl.specs.Until.{Reaches, Length}
use Rattle.stl.proofs.Shortest.{below_size}
use Rattle.lengths.specs.Tables.{Measured}

module _ {k : Structure} {A B : ℕ → Type 0} {s w : ℕ} where
  -- an entry that is no 4294967295 is the shortest length
  pub entry_length : Measured k A B s w → (w ≡ 4294967295 → ⊥) → Length k A B s w
  entry_length (inl x) ne = absurd (ne x.0)
  entry_length (inr x) ne = x

  -- a length is no 4294967295
  pub length_small : WellFormed k → k.size ≤ 4096 → s < k.size → Length k A B s w → w < 4294967295
  length_small formed fits h x = omega (arith, below_size k A B formed s w h x)

  -- an entry that is 4294967295 says that there is no run
  pub entry_none : WellFormed k → k.size ≤ 4096 → s < k.size → Measured k A B s w → w ≡ 4294967295 → (rest : List ℕ) → Reaches k A B s rest → ⊥
  entry_none formed fits h (inl x) e = x.1
  entry_none formed fits h (inr x) e = absurd (omega (arith, length_small formed fits h x))
