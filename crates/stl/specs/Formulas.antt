-- The formulas of safe temporal logic, and when a state satisfies one. Assumes nothing.
use Rattle.std.specs.Prelude.{◌≡◌, ℕ, true, ◌⊎◌, List, [], ◌∷◌, ◌++◌, slice_index_or, ◌↔◌}
use Rattle.stl.specs.Structures.{Structure, Move}
use Rattle.stl.specs.Runs.{Run, last}
use Rattle.stl.specs.Until.{Until, AllButLast}
use Rattle.stl.specs.declared.row.Row.{Row}
use Rattle.stl.specs.declared.row.Row.TheVariants as row

pub data Formula : Type 0 where
  top : Formula
  sign : ℕ → Formula
  neg : Formula → Formula
  or : Formula → Formula → Formula
  next : Formula → Formula
  until : Formula → Formula → Formula

-- state s satisfies the formula
abbrev pub Holds : Structure → Formula → ℕ → Type 0
Holds k top s = Unit {0}
Holds k (sign n) s = k.on s n ≡ true
Holds k (neg f) s = Holds k f s → ⊥
Holds k (or f g) s = Holds k f s ⊎ Holds k g s
Holds k (next f) s = (t : ℕ) × Move k s t × Holds k f t
Holds k (until f g) s = Until k (Holds k f) (Holds k g) s

-- two other ways to say until
pub record UntilLaws : Type 0 where
  -- a run ends where g holds, and at all its states but the last f holds
  pub by_run : (k : Structure) (f g : Formula) (s : ℕ) → Holds k (until f g) s ↔ ((rest : List ℕ) × Run k s rest × Holds k g (last s rest) × AllButLast (Holds k f) s rest)
  -- g holds, or f holds and a move leads to a state where the until holds
  pub by_step : (k : Structure) (f g : Formula) (s : ℕ) → Holds k (until f g) s ↔ (Holds k g s ⊎ (Holds k f s × Holds k (next (until f g)) s))

-- the formula of a row, over those of the rows before it
abbrev pub build : List Formula → Row → Formula
build above row.True = top
build above (row.Sign n) = sign n
build above (row.Not a) = neg (slice_index_or above a top)
build above (row.Or a b) = or (slice_index_or above a top) (slice_index_or above b top)
build above (row.Next a) = next (slice_index_or above a top)
build above (row.Until a b) = until (slice_index_or above a top) (slice_index_or above b top)

-- the formulas of some more rows, after those above
abbrev pub grow : List Formula → List Row → List Formula
grow above [] = above
grow above (row ∷ rows) = grow (above ++ (build above row ∷ [])) rows

-- the formula of each row of a list
abbrev pub formulas : List Row → List Formula
formulas rows = grow [] rows
