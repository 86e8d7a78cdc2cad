-- The reach of a marked row, asked for again. Assumes nothing.
use Rattle.std.specs.Prelude.{◌≡◌, ℕ, ◌<◌, List, [], ◌∷◌, length, Some, None, Ok, Err, Option, Result, nat_le, nat_lt}
use Rattle.calls.specs.Answers.{State}
use Rattle.calls.specs.declared.fault.SessionFault.{SessionFault}
use Rattle.calls.specs.declared.fault.SessionFault.TheVariants.{ShortSheet, NotMarked}
use Rattle.lengths.specs.Sheets.{by_sheet}
use Rattle.map.specs.Questions.{Question, ask, first_no}
use Rattle.stl.specs.Rows.{row_at, Reach}
use Rattle.stl.specs.Structures.{Structure}

-- what is asked before the reach of row r is worked out from a sheet of so many words
abbrev pub reach_questions : Structure → State → ℕ → ℕ → List (Question SessionFault)
reach_questions k st words r = ask (nat_le k.size words) ShortSheet ∷ (ask (nat_lt r st.marked) NotMarked ∷ [])

-- the reach of row r by the labels in the sheet, below the number of states
pub record ReachGiven (k : Structure) (st : State) (sheet : List ℕ) (r : ℕ) (x : Result ℕ SessionFault) : Type 0 where
  pub reach : ℕ
  pub given : x ≡ Ok reach
  pub right : Reach k (by_sheet sheet) (row_at st.rows r) reach
  pub below : 0 < k.size → reach < k.size

-- the reach, or the refusal
abbrev pub ReachDecided : Structure → State → List ℕ → ℕ → Result ℕ SessionFault → Option SessionFault → Type 0
ReachDecided k st sheet r x None = ReachGiven k st sheet r x
ReachDecided k st sheet r x (Some f) = x ≡ Err f

-- what is answered to the question for the reach of row r
abbrev pub ReachAnswers : Structure → State → List ℕ → ℕ → Result ℕ SessionFault → Type 0
ReachAnswers k st sheet r x = ReachDecided k st sheet r x (first_no (reach_questions k st (length sheet) r))
