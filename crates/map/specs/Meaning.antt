-- What a map means, whatever holds it. Assumes nothing.
use Rattle.std.specs.Prelude.{◌≡◌, ℕ, ◌<◌, ◌≤◌, Bool, true, false, List, length, is_some, Some, None, Option, nat_lt, slice_index}
use Rattle.stl.specs.Structures.{Structure}

-- a size, the starts, and for each state a look and a list of targets; L is the kind of look
pub record Meaning (L : Type 0) : Type 0 where
  pub size : ℕ
  pub start : ℕ → Bool
  pub look : ℕ → Option L
  pub list : ℕ → List ℕ

-- what every kind of map has to show of its meaning
pub record Bounded {L : Type 0} (m : Meaning L) : Type 0 where
  -- at most 4,096 states
  pub size_fits : m.size ≤ 4096
  -- at most 32,768 entries in a list
  pub list_fits : (s : ℕ) → length (m.list s) ≤ 32768
  -- every target is a state
  pub targets_fit : (s i : ℕ) → i < length (m.list s) → slice_index (m.list s) i < m.size
  -- every start is a state
  pub starts_fit : (s : ℕ) → m.start s ≡ true → s < m.size
  -- a look exactly for the states that are there
  pub shown : (s : ℕ) → is_some (m.look s) ≡ nat_lt s m.size
  -- no list for a state that is not there
  pub no_list : (s : ℕ) → m.size ≤ s → length (m.list s) ≡ 0

-- whether sign k is on in a look; without a look it is off
abbrev pub sign_of : {L : Type 0} → (L → ℕ → Bool) → Option L → ℕ → Bool
sign_of sign None k = false
sign_of sign (Some l) k = sign l k

-- the structure of a map, by what its kind of look says of signs
abbrev pub structure : {L : Type 0} → (L → ℕ → Bool) → Meaning L → Structure
structure sign m = record { size = m.size; start = m.start; on = λ s k. sign_of sign (m.look s) k; list = m.list }
