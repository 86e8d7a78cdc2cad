-- Work tables, which hold shortest lengths, and run tables, which hold a run. Assumes nothing.
use Rattle.std.specs.Prelude.{◌≡◌, ℕ, ◌+◌, ◌<◌, ◌≤◌, ◌⊎◌, List, ◌∷◌, ◌++◌, length, drop, slice_index}
use Rattle.stl.specs.Structures.{Structure}
use Rattle.stl.specs.Until.{Reaches, Shortest, Length}

-- what a work table holds of s: the length of a shortest run, or 4294967295 where there is none
abbrev pub Measured : Structure → (ℕ → Type 0) → (ℕ → Type 0) → ℕ → ℕ → Type 0
Measured k A B s n = ((n ≡ 4294967295) × ((rest : List ℕ) → Reaches k A B s rest → ⊥)) ⊎ Length k A B s n

-- the first entries hold each state's shortest length; the others are as they were
pub record Filled (k : Structure) (A B : ℕ → Type 0) (before after : List ℕ) : Type 0 where
  pub sized : length after ≡ length before
  pub here : (s : ℕ) → s < k.size → Measured k A B s (slice_index after s)
  pub past : (s : ℕ) → k.size ≤ s → slice_index after s ≡ slice_index before s

-- the first entries are a shortest run of n moves, s first; the others are as they were
pub record Written (k : Structure) (A B : ℕ → Type 0) (s : ℕ) (before after : List ℕ) (n : ℕ) : Type 0 where
  pub rest : List ℕ
  pub shortest : Shortest k A B s rest
  pub long : length rest ≡ n
  pub holds : after ≡ (s ∷ rest) ++ drop (n + 1) before
