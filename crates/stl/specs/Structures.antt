-- Structures: states, signs and moves, whatever holds them. Assumes nothing.
use Rattle.std.specs.Prelude.{◌≡◌, ℕ, ◌<◌, Bool, true, List, length, slice_index}

-- states 0 to size - 1, the starts among them, the signs that are on at each state, and the targets of each
pub record Structure : Type 0 where
  pub size : ℕ
  pub start : ℕ → Bool
  pub on : ℕ → ℕ → Bool
  pub list : ℕ → List ℕ

-- there is a move from s to t: t is in the list of s
abbrev pub Move : Structure → ℕ → ℕ → Type 0
Move k s t = (i : ℕ) × (i < length (k.list s)) × (slice_index (k.list s) i ≡ t)

-- starts are states, and moves from states lead to states
pub record WellFormed (k : Structure) : Type 0 where
  pub starts : (s : ℕ) → k.start s ≡ true → s < k.size
  pub targets : (s t : ℕ) → s < k.size → Move k s t → t < k.size
