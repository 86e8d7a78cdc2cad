-- Labels asked through a fold: the label of a full state is that of its class on the folded map. Assumes nothing.
use Rattle.std.specs.Prelude.{◌≡◌, ℕ, ◌<◌, Bool, true, ◌&&◌, List, [], ◌∷◌, length, Some, None, Ok, Err, Option, Result, nat_le, nat_lt, ◌↔◌}
use Rattle.calls.specs.Answers.{State}
use Rattle.calls.specs.Histories.{Moment, History}
use Rattle.calls.specs.declared.fault.SessionFault.{SessionFault}
use Rattle.calls.specs.declared.fault.SessionFault.TheVariants.{ShortSheet, NoSuchState, NotMarked}
use Rattle.lengths.specs.Sheets.{label_of}
use Rattle.map.specs.Meaning.{Meaning, Bounded, structure}
use Rattle.map.specs.Questions.{Question, ask, first_no}
use Rattle.sharing.specs.Accepts.{class_of, Accepts}
use Rattle.stl.specs.Rows.{by_logic}

-- s has a class, which is one of n states
abbrev pub classed : List ℕ → ℕ → ℕ → Bool
classed table n s = nat_lt s (length table) && nat_lt (class_of table s) n

-- what is asked, where the folded map has n states and the sheet so many words
abbrev pub ask_questions : ℕ → ℕ → List ℕ → ℕ → ℕ → ℕ → List (Question SessionFault)
ask_questions n words table marked s r = ask (nat_le n words) ShortSheet ∷ (ask (classed table n s) NoSuchState ∷ (ask (nat_lt r marked) NotMarked ∷ []))

-- the label, where nothing is refused
abbrev pub granted : Bool → Option SessionFault → Result Bool SessionFault
granted label None = Ok label
granted label (Some f) = Err f

-- the label of the class of s
abbrev pub asked : ℕ → List ℕ → List ℕ → ℕ → ℕ → ℕ → Result Bool SessionFault
asked n sheet table marked s r = granted (label_of sheet r (class_of table s)) (first_no (ask_questions n (length sheet) table marked s r))

-- whatever the session on the folded map was asked, the answer for a marked row is whether the state of the full map satisfies it
abbrev pub SpeaksOfFull : {L : Type 0} → (L → ℕ → Bool) → (L → L → Bool) → Meaning L → List ℕ → State → List ℕ → ℕ → ℕ → Result Bool SessionFault → Type 0
SpeaksOfFull {L} sign same folded table st sheet s r x =
    (full : Meaning L) → Bounded full → Accepts sign same full folded table →
    (past : List Moment) → History (structure sign folded) st sheet past →
    s < full.size → r < st.marked →
    (b : Bool) × (x ≡ Ok b) × ((b ≡ true) ↔ by_logic (structure sign full) st.rows r s)
