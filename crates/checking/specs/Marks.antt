-- A session whose rows are all marked. Assumes nothing.
use Rattle.std.specs.Prelude.{◌≡◌, ℕ, List, length}
use Rattle.calls.specs.Answers.{State}
use Rattle.calls.specs.Histories.{Kept}
use Rattle.stl.specs.Structures.{Structure}
use Rattle.stl.specs.declared.row.Row.{Row}

-- it has these rows, each is marked, and the labels are the logic's
pub record AllMarked (k : Structure) (rows : List Row) (st : State) (sheet : List ℕ) : Type 0 where
  pub same : st.rows ≡ rows
  pub all : st.marked ≡ length rows
  pub kept : Kept k st sheet
