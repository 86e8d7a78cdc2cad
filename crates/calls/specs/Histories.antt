-- Histories: any list of calls of a session on one structure, and what is right of them. Assumes nothing.
use Rattle.std.specs.Prelude.{◌≡◌, ℕ, ◌+◌, ◌<◌, ◌≤◌, true, false, List, [], ◌∷◌, length, take, None, Ok, Err, Result, slice_index, ◌↔◌}
use Rattle.lengths.specs.Sheets.{label_of, by_sheet}
use Rattle.lengths.specs.Tables.{Filled}
use Rattle.map.specs.Questions.{first_no}
use Rattle.stl.specs.Rows.{named, row_at, ForUntil, by_logic}
use Rattle.stl.specs.Structures.{Structure}
use Rattle.stl.specs.Until.{Shortest}
use Rattle.calls.specs.Answers.{State, questions, LogicAnswers}
use Rattle.calls.specs.Effects.{Tables, lent, Gives}
use Rattle.calls.specs.declared.call.Answer.{Answer}
use Rattle.calls.specs.declared.call.Answer.TheVariants as answer
use Rattle.calls.specs.declared.call.Call.{Call}
use Rattle.calls.specs.declared.call.Call.TheVariants as call
use Rattle.calls.specs.declared.fault.SessionFault.{SessionFault}

-- one call: what the session keeps and the tables, before and after
pub record Moment : Type 0 where
  pub before : State
  pub given : Tables
  pub asked : Call
  pub said : Answer
  pub after : State
  pub left : Tables

-- what a call of a session on k gave
abbrev pub Gave : Structure → Moment → Type 0
Gave k m = Gives k m.before m.given m.asked m.said m.after m.left

-- a session just opened, and calls that each act on the outcome of those before, the latest first: each is lent the session's sheet,
-- which goes on from call to call, or one too short
pub data History (k : Structure) : State → List ℕ → List Moment → Type 0 where
  opened : (sheet : List ℕ) → 0 < k.size → k.size ≤ length sheet → ((s : ℕ) → s < k.size → slice_index sheet s ≡ 0) → History k (record { rows = []; marked = 0 }) sheet []
  called : {st : State} {sheet : List ℕ} {past : List Moment} → History k st sheet past → (m : Moment) → m.before ≡ st → m.given.sheet ≡ sheet → Gave k m → History k m.after m.left.sheet (m ∷ past)
  short : {st : State} {sheet : List ℕ} {past : List Moment} → History k st sheet past → (m : Moment) → m.before ≡ st → length m.given.sheet < k.size → Gave k m → History k m.after sheet (m ∷ past)

-- what a session and its sheet keep to
pub record Kept (k : Structure) (st : State) (sheet : List ℕ) : Type 0 where
  pub fits : k.size ≤ length sheet
  pub few : length st.rows ≤ 64
  pub counted : st.marked ≤ length st.rows
  pub earlier : (r : ℕ) → r < length st.rows → named (row_at st.rows r) r ≡ true
  -- a marked row's label is on exactly where its formula is satisfied
  pub faithful : (r s : ℕ) → r < st.marked → s < k.size → by_sheet sheet r s ↔ by_logic k st.rows r s
  -- no other bit is on
  pub blank : (r s : ℕ) → st.marked ≤ r → s < k.size → label_of sheet r s ≡ false

-- of each call
abbrev pub Each : (Moment → Type 0) → List Moment → Type 0
Each P [] = Unit {0}
Each P (m ∷ ms) = P m × Each P ms

-- the run that a witness shows is a shortest one for its row, by the logic
abbrev pub Shows : Structure → Moment → Call → Answer → Type 0
Shows k m c a = (s r n : ℕ) → c ≡ call.Witness s r → a ≡ answer.Witness n →
    ForUntil (row_at m.before.rows r)
    (λ x y. (rest : List ℕ) × (take (n + 1) m.left.run ≡ s ∷ rest) × Shortest k (by_logic k m.before.rows x) (by_logic k m.before.rows y) s rest)
    ⊥

-- a witness that was sought leaves each state's shortest length by the logic, shown or not
abbrev pub Fills : Structure → Moment → Call → Type 0
Fills k m c = (s r : ℕ) → c ≡ call.Witness s r → first_no (questions k m.before (lent m.given) c) ≡ None →
    ForUntil (row_at m.before.rows r)
    (λ x y. Filled k (by_logic k m.before.rows x) (by_logic k m.before.rows y) m.given.work m.left.work)
    ⊥

-- the answer of safe temporal logic, its run a shortest one, its lengths the shortest
pub record Right (k : Structure) (m : Moment) : Type 0 where
  pub logic : LogicAnswers k m.before (lent m.given) m.asked m.said m.after
  pub run : Shows k m m.asked m.said
  pub work : Fills k m m.asked

-- a session that was opened begins a history
abbrev pub Begins : Structure → Result State SessionFault → List ℕ → Type 0
Begins k (Ok st) sheet = History k st sheet []
Begins k (Err f) sheet = Unit {0}
