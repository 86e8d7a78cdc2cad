-- What is found by asking one number, or one entry, after another. A test that is led by Says answers b at i only where Says i b.
-- Assumes nothing.
use Rattle.std.specs.Prelude.{◌≡◌, ℕ, ◌<◌, Bool, true, false, List, length, Some, None, Option, slice_index}

-- the lowest of the first n numbers at which a test says no, if it does at one; `lowest_no` of Counts is the same of a test that is a function
pub record LowestNo (Says : ℕ → Bool → Type 0) (n : ℕ) (found : Option ℕ) : Type 0 where
  pub none : found ≡ None → (i : ℕ) → i < n → Says i true
  pub some : (s : ℕ) → found ≡ Some s → (s < n) × Says s false × ((j : ℕ) → j < s → Says j true)

-- the first entry of a list at which a test says yes, if it does at one
pub record FirstPick (xs : List ℕ) (Says : ℕ → Bool → Type 0) (found : Option ℕ) : Type 0 where
  pub none : found ≡ None → (i : ℕ) → i < length xs → Says (slice_index xs i) false
  pub some : (t : ℕ) → found ≡ Some t → (i : ℕ) × (i < length xs) × (slice_index xs i ≡ t) × Says t true × ((j : ℕ) → j < i → Says (slice_index xs j) false)
