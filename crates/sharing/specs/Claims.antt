-- What is claimed of folds. Assumes nothing.
use Rattle.std.specs.Prelude.{ℕ, Bool, List}
use Rattle.map.specs.Meaning.{Meaning, Bounded, structure}
use Rattle.stl.specs.Folds.{Folds}
use Rattle.stl.specs.Structures.{Structure, WellFormed}
use Rattle.sharing.specs.Accepts.{class_of, Accepts}
use Rattle.sharing.specs.Chains.{Chain}
use Rattle.sharing.specs.Shares.{Share}

-- sessions on two structures, one a fold of the other, share
abbrev pub FoldsShare : Type 0
FoldsShare =
    (full folded : Structure) (class : ℕ → ℕ) → WellFormed full → WellFormed folded → Folds full folded class → Share full folded class

module _ {L : Type 0} (sign : L → ℕ → Bool) (same : L → L → Bool) where
  -- a table that is accepted is a fold, and sessions on the two maps share
  abbrev pub FoldsStand : Type 0
  FoldsStand =
      (full folded : Meaning L) (table : List ℕ) → Bounded full → Bounded folded → Accepts sign same full folded table →
      Folds (structure sign full) (structure sign folded) (class_of table) × Share (structure sign full) (structure sign folded) (class_of table)

  -- the chained table of a chain is accepted, and sessions on its first and its last map share
  abbrev pub ChainsStand : Type 0
  ChainsStand =
      (full folded : Meaning L) (table : List ℕ) → Bounded full → Bounded folded → Chain sign same full folded table →
      Accepts sign same full folded table × Share (structure sign full) (structure sign folded) (class_of table)
