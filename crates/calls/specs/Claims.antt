-- What is claimed of sessions on one structure. Assumes nothing.
use Rattle.std.specs.Prelude.{◌≡◌, ℕ, List, ◌∷◌}
use Rattle.stl.specs.Structures.{Structure, WellFormed}
use Rattle.calls.specs.Answers.{State, Lent, LogicAnswers}
use Rattle.calls.specs.Effects.{Tables}
use Rattle.calls.specs.Histories.{Moment, History, Each, Right, Kept}
use Rattle.calls.specs.declared.call.Answer.{Answer}
use Rattle.calls.specs.declared.call.Call.{Call}

-- the logic gives a call one answer, and leaves the session one way
abbrev pub OneAnswer : Type 0
OneAnswer =
    (k : Structure) (st : State) (l : Lent) (c : Call) (a b : Answer) (after past : State) →
    LogicAnswers k st l c a after → LogicAnswers k st l c b past → (a ≡ b) × (after ≡ past)

-- whatever a session is asked on a structure, each answer is the logic's, and the labels in its sheet are too
abbrev pub OneMap : Type 0
OneMap =
    (k : Structure) → WellFormed k →
    (st : State) (sheet : List ℕ) (past : List Moment) → History k st sheet past → Each (Right k) past × Kept k st sheet

-- a call after any list of calls of the session: its answer is the logic's and its run a shortest one, the labels after it are the
-- logic's, and with it the list is one of such calls again
pub record Performed (k : Structure) (m : Moment) (past : List Moment) : Type 0 where
  pub right : Right k m
  pub kept : Kept k m.after m.left.sheet
  pub history : History k m.after m.left.sheet (m ∷ past)

-- one call, as a moment of a history
abbrev pub moment : State → Tables → Call → Answer → State → Tables → Moment
moment st t c a later u = record { before = st; given = t; asked = c; said = a; after = later; left = u }

-- whatever was asked before
abbrev pub AfterAnyCalls : Structure → Moment → Type 0
AfterAnyCalls k m = (past : List Moment) → History k m.before m.given.sheet past → Performed k m past
