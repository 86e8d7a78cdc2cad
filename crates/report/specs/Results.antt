-- The results of the marked rows of a session, by the labels in a sheet. Assumes nothing.
use Rattle.std.specs.Prelude.{◌≡◌, ℕ, ◌<◌, true, false, List, length, slice_index_or, ◌↔◌}
use Rattle.calls.specs.Answers.{State}
use Rattle.lengths.specs.Sheets.{by_sheet}
use Rattle.stl.specs.Rows.{row_at, Reach}
use Rattle.stl.specs.Structures.{Structure}
use Rattle.stl.specs.declared.row.Row.{Row}
use Rattle.report.specs.declared.found.Found.{Found}

-- the result of row r: yes where every start has its label, and its reach, which is below the number of states
pub record Right (k : Structure) (rows : List Row) (sheet : List ℕ) (r : ℕ) (found : Found) : Type 0 where
  pub verdict : (found.yes ≡ true) ↔ ((s : ℕ) → k.start s ≡ true → by_sheet sheet r s)
  pub reach : Reach k (by_sheet sheet) (row_at rows r) found.reach
  pub below : 0 < k.size → found.reach < k.size

-- what stands where there is no result
abbrev pub nothing : Found
nothing = record { yes = false; reach = 0 }

-- the first n entries are the results of rows 0 to n - 1
abbrev pub Collected : Structure → List Row → List ℕ → ℕ → List Found → Type 0
Collected k rows sheet n finds = (r : ℕ) → r < n → Right k rows sheet r (slice_index_or finds r nothing)

-- one result for each marked row, in order
pub record Finds (k : Structure) (st : State) (sheet : List ℕ) (finds : List Found) : Type 0 where
  pub each : length finds ≡ st.marked
  pub right : Collected k st.rows sheet st.marked finds
