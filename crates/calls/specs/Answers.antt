-- What a session answers to a call: from the structure, the rows, the arguments, the lengths of the tables, and what each row
-- says at each state. Assumes nothing.
use Rattle.std.specs.Prelude.{◌≡◌, ℕ, ◌+◌, ◌<◌, ◌≤◌, Bool, true, List, [], ◌∷◌, ◌++◌, length, Some, None, Option, nat_le, nat_lt, ◌↔◌}
use Rattle.map.specs.Questions.{Question, ask, first_no}
use Rattle.stl.specs.Rows.{named, is_until, row_at, ForUntil, Reach, by_logic}
use Rattle.stl.specs.Structures.{Structure}
use Rattle.stl.specs.Until.{Reaches, Length}
use Rattle.stl.specs.declared.row.Row.{Row}
use Rattle.calls.specs.declared.call.Answer.{Answer}
use Rattle.calls.specs.declared.call.Answer.TheVariants as answer
use Rattle.calls.specs.declared.call.Call.{Call}
use Rattle.calls.specs.declared.call.Call.TheVariants as call
use Rattle.calls.specs.declared.fault.SessionFault.{SessionFault}
use Rattle.calls.specs.declared.fault.SessionFault.TheVariants.{ShortSheet, TooManyRows, NamesLaterRow, NothingToMark, NoSuchState, NotMarked, NotUntil, ShortWork, NoRun, ShortRun}

-- what a session keeps: its rows, and how many of them are marked
pub record State : Type 0 where
  pub rows : List Row
  pub marked : ℕ

-- how long the tables lent to a call are
pub record Lent : Type 0 where
  pub sheet : ℕ
  pub work : ℕ
  pub run : ℕ

-- what each call asks of its own
abbrev pub further : Structure → State → Lent → Call → List (Question SessionFault)
further k st l (call.Add row) = ask (nat_lt (length st.rows) 64) TooManyRows ∷ (ask (named row (length st.rows)) NamesLaterRow ∷ [])
further k st l call.Mark = ask (nat_lt st.marked (length st.rows)) NothingToMark ∷ []
further k st l (call.Label s r) = ask (nat_lt s k.size) NoSuchState ∷ (ask (nat_lt r st.marked) NotMarked ∷ [])
further k st l (call.Verdict r) = ask (nat_lt r st.marked) NotMarked ∷ []
further k st l (call.Witness s r) = ask (nat_lt s k.size) NoSuchState ∷ (ask (nat_lt r st.marked) NotMarked ∷ (ask (is_until (row_at st.rows r)) NotUntil ∷ (ask (nat_le k.size l.work) ShortWork ∷ [])))

-- every call first asks whether the sheet has a word for each state
abbrev pub questions : Structure → State → Lent → Call → List (Question SessionFault)
questions k st l c = ask (nat_le k.size l.sheet) ShortSheet ∷ further k st l c

-- the last two questions of a witness, which are about the run itself
pub data Found (k : Structure) (A B : ℕ → Type 0) (s : ℕ) (room : ℕ) : Answer → Type 0 where
  none : ((rest : List ℕ) → Reaches k A B s rest → ⊥) → Found k A B s room (answer.Refused NoRun)
  short : (n : ℕ) → Length k A B s n → room ≤ n → Found k A B s room (answer.Refused (ShortRun n))
  shown : (n : ℕ) → Length k A B s n → n < room → Found k A B s room (answer.Witness n)

-- what a call answers where no question is answered no, and what the session keeps then
pub data Grants (k : Structure) (V : ℕ → ℕ → Type 0) (st : State) (l : Lent) : Call → Answer → State → Type 0 where
  added : (row : Row) → Grants k V st l (call.Add row) (answer.Added (length st.rows)) (record { rows = st.rows ++ (row ∷ []); marked = st.marked })
  marked : (n : ℕ) → Reach k V (row_at st.rows st.marked) n → Grants k V st l call.Mark (answer.Marked st.marked n) (record { rows = st.rows; marked = st.marked + 1 })
  label : (s r : ℕ) (b : Bool) → (b ≡ true) ↔ V r s → Grants k V st l (call.Label s r) (answer.Label b) st
  verdict : (r : ℕ) (b : Bool) → (b ≡ true) ↔ ((s : ℕ) → k.start s ≡ true → V r s) → Grants k V st l (call.Verdict r) (answer.Verdict b) st
  witness : (s r : ℕ) (a : Answer) → ForUntil (row_at st.rows r) (λ x y. Found k (V x) (V y) s l.run a) ⊥ → Grants k V st l (call.Witness s r) a st

-- a refusal leaves the session as it was
abbrev pub Decided : Structure → (ℕ → ℕ → Type 0) → State → Lent → Call → Answer → State → Option SessionFault → Type 0
Decided k V st l c a after None = Grants k V st l c a after
Decided k V st l c a after (Some f) = (a ≡ answer.Refused f) × (after ≡ st)

-- the answer to a call, and what the session keeps after it, where row r says V r s at state s
abbrev pub Answers : Structure → (ℕ → ℕ → Type 0) → State → Lent → Call → Answer → State → Type 0
Answers k V st l c a after = Decided k V st l c a after (first_no (questions k st l c))

-- the answer that safe temporal logic gives
abbrev pub LogicAnswers : Structure → State → Lent → Call → Answer → State → Type 0
LogicAnswers k st l c a after = Answers k (by_logic k st.rows) st l c a after
