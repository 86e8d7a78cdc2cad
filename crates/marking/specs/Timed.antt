-- The lengths that the labels of an until are read off. Assumes nothing.
use Rattle.std.specs.Prelude.{ℕ, ◌<◌, List, slice_index}
use Rattle.lengths.specs.Sheets.{by_sheet}
use Rattle.lengths.specs.Tables.{Measured}
use Rattle.stl.specs.Rows.{ForUntil}
use Rattle.stl.specs.Structures.{Structure}
use Rattle.stl.specs.declared.row.Row.{Row}

-- where the row is an until, the work table has its shortest lengths by the labels in the sheet
abbrev pub Timed : Structure → List ℕ → List ℕ → Row → Type 0
Timed k sheet work row = ForUntil row (λ a b. (s : ℕ) → s < k.size → Measured k (by_sheet sheet a) (by_sheet sheet b) s (slice_index work s)) (Unit {0})
