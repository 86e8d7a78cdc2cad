-- Label sheets: bit r of word s is the label of row r at state s. Assumes nothing.
use Rattle.std.specs.Prelude.{◌≡◌, ℕ, ◌<◌, ◌≤◌, Bool, true, List, length, ◌≢◌, slice_index, ◌↔◌}
use Rattle.look.specs.Bits.{bit_on}
use Rattle.stl.specs.Rows.{Satisfied}
use Rattle.stl.specs.Structures.{Structure}
use Rattle.stl.specs.declared.row.Row.{Row}

-- the label of row r at state s
abbrev pub label_of : List ℕ → ℕ → ℕ → Bool
label_of sheet r s = bit_on (slice_index sheet s) r

-- the valuation of a sheet: row r holds at s where its label is on
abbrev pub by_sheet : List ℕ → ℕ → ℕ → Type 0
by_sheet sheet r s = label_of sheet r s ≡ true

-- row r has the labels of `row` at the first n states; each other bit, and each word past them, is as it was
pub record Labelled (k : Structure) (before : List ℕ) (r : ℕ) (row : Row) (n : ℕ) (after : List ℕ) : Type 0 where
  pub sized : length after ≡ length before
  pub here : (s : ℕ) → s < n → by_sheet after r s ↔ Satisfied k (by_sheet before) row s
  pub other : (q s : ℕ) → (q ≢ r) → label_of after q s ≡ label_of before q s
  pub past : (s : ℕ) → n ≤ s → slice_index after s ≡ slice_index before s
