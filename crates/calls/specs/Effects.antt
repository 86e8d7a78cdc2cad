-- What a call does to the tables that are lent to it. Assumes nothing.
use Rattle.std.specs.Prelude.{◌≡◌, ℕ, List, [], length, Some, None, Option}
use Rattle.lengths.specs.Sheets.{by_sheet, Labelled}
use Rattle.lengths.specs.Tables.{Filled, Written}
use Rattle.map.specs.Questions.{first_no}
use Rattle.stl.specs.Rows.{row_at, ForUntil}
use Rattle.stl.specs.Structures.{Structure}
use Rattle.calls.specs.Answers.{State, Lent, questions, Answers}
use Rattle.calls.specs.declared.call.Answer.{Answer}
use Rattle.calls.specs.declared.call.Answer.TheVariants as answer
use Rattle.calls.specs.declared.call.Call.{Call}
use Rattle.calls.specs.declared.call.Call.TheVariants as call
use Rattle.calls.specs.declared.fault.SessionFault.{SessionFault}

-- the tables that a call may be lent: the label sheet, the work table and the run table
pub record Tables : Type 0 where
  pub sheet : List ℕ
  pub work : List ℕ
  pub run : List ℕ

abbrev pub tables : List ℕ → List ℕ → List ℕ → Tables
tables ss ws rs = record { sheet = ss; work = ws; run = rs }

-- a call that is lent its sheet alone
abbrev pub alone : List ℕ → Tables
alone sheet = tables sheet [] []

-- how long they are
abbrev pub lent : Tables → Lent
lent t = record { sheet = length t.sheet; work = length t.work; run = length t.run }

-- the run table after a run was sought: a shortest run from s where one is shown, else what it was
abbrev pub RunAfter : Structure → (ℕ → Type 0) → (ℕ → Type 0) → ℕ → List ℕ → List ℕ → Answer → Type 0
RunAfter k A B s before after (answer.Added r) = after ≡ before
RunAfter k A B s before after (answer.Marked r n) = after ≡ before
RunAfter k A B s before after (answer.Label b) = after ≡ before
RunAfter k A B s before after (answer.Verdict b) = after ≡ before
RunAfter k A B s before after (answer.Witness n) = Written k A B s before after n
RunAfter k A B s before after (answer.Refused f) = after ≡ before

-- what is left by a witness that was sought: shown, or refused for want of a run or of room
pub record Sought (k : Structure) (A B : ℕ → Type 0) (s : ℕ) (t u : Tables) (a : Answer) : Type 0 where
  pub sheet : u.sheet ≡ t.sheet
  pub work : Filled k A B t.work u.work
  pub run : RunAfter k A B s t.run u.run a

-- the tables after a call that no question stopped
abbrev pub Writes : Structure → State → Tables → Call → Answer → Tables → Type 0
Writes k st t (call.Add row) a u = u ≡ t
Writes k st t call.Mark a u = Labelled k t.sheet st.marked (row_at st.rows st.marked) k.size u.sheet × (u.work ≡ t.work) × (u.run ≡ t.run)
Writes k st t (call.Label s r) a u = u ≡ t
Writes k st t (call.Verdict r) a u = u ≡ t
Writes k st t (call.Witness s r) a u = ForUntil (row_at st.rows r) (λ x y. Sought k (by_sheet t.sheet x) (by_sheet t.sheet y) s t u a) ⊥

-- a call that a question stopped leaves every table as it was
abbrev pub Leaves : Structure → State → Tables → Call → Answer → Tables → Option SessionFault → Type 0
Leaves k st t c a u None = Writes k st t c a u
Leaves k st t c a u (Some f) = u ≡ t

-- what a call gives: its answer goes by the labels in the sheet
pub record Gives (k : Structure) (st : State) (t : Tables) (c : Call) (a : Answer) (after : State) (u : Tables) : Type 0 where
  pub answers : Answers k (by_sheet t.sheet) st (lent t) c a after
  pub leaves : Leaves k st t c a u (first_no (questions k st (lent t) c))
