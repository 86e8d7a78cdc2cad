-- A session just opened. Assumes nothing.
use Rattle.std.specs.Prelude.{◌≡◌, ℕ, ◌<◌, ◌≤◌, List, [], ◌∷◌, length, Some, None, Ok, Err, Option, Result, nat_le, nat_lt, slice_index}
use Rattle.map.specs.Questions.{Question, ask, first_no}
use Rattle.stl.specs.Structures.{Structure}
use Rattle.calls.specs.Answers.{State}
use Rattle.calls.specs.declared.fault.SessionFault.{SessionFault}
use Rattle.calls.specs.declared.fault.SessionFault.TheVariants.{NoState, ShortSheet}

-- no rows, none marked
abbrev pub fresh : State
fresh = record { rows = []; marked = 0 }

-- what is asked before a session is opened on a sheet of so many words
abbrev pub open_questions : Structure → ℕ → List (Question SessionFault)
open_questions k words = ask (nat_lt 0 k.size) NoState ∷ (ask (nat_le k.size words) ShortSheet ∷ [])

-- the first n words are 0; the others are as they were
pub record Cleared (n : ℕ) (before after : List ℕ) : Type 0 where
  pub sized : length after ≡ length before
  pub here : (s : ℕ) → s < n → slice_index after s ≡ 0
  pub past : (s : ℕ) → n ≤ s → slice_index after s ≡ slice_index before s

abbrev pub OpenDecided : Structure → List ℕ → Result State SessionFault → List ℕ → Option SessionFault → Type 0
OpenDecided k before r after None = (r ≡ Ok fresh) × Cleared k.size before after
OpenDecided k before r after (Some f) = (r ≡ Err f) × (after ≡ before)

-- what opening gives, and what the sheet holds after
abbrev pub Opens : Structure → List ℕ → Result State SessionFault → List ℕ → Type 0
Opens k before r after = OpenDecided k before r after (first_no (open_questions k (length before)))
