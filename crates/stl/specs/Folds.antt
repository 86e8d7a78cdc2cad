-- Folds: each state of a full structure has a class in a folded one, and the two behave alike. Assumes nothing.
use Rattle.std.specs.Prelude.{◌≡◌, ℕ, ◌<◌, true, ◌↔◌}
use Rattle.stl.specs.Formulas.{Formula, Holds}
use Rattle.stl.specs.Structures.{Structure, Move, WellFormed}

-- class is a fold of full onto folded: a bisimulation that is a function, onto, and takes starts to starts
pub record Folds (full folded : Structure) (class : ℕ → ℕ) : Type 0 where
  pub within : (s : ℕ) → s < full.size → class s < folded.size
  pub on : (s n : ℕ) → s < full.size → full.on s n ≡ folded.on (class s) n
  pub forth : (s t : ℕ) → s < full.size → Move full s t → Move folded (class s) (class t)
  pub back : (s d : ℕ) → s < full.size → Move folded (class s) d → (t : ℕ) × Move full s t × (class t ≡ d)
  pub starts : (s : ℕ) → s < full.size → full.start s ≡ true → folded.start (class s) ≡ true
  pub started : (d : ℕ) → d < folded.size → folded.start d ≡ true → (s : ℕ) × (s < full.size) × (full.start s ≡ true) × (class s ≡ d)
  pub onto : (d : ℕ) → d < folded.size → (s : ℕ) × (s < full.size) × (class s ≡ d)

-- a state satisfies a formula exactly when its class does
abbrev pub FoldsKeepRules : Type 0
FoldsKeepRules =
    (full folded : Structure) (class : ℕ → ℕ) → WellFormed full → Folds full folded class →
    (f : Formula) (s : ℕ) → s < full.size → Holds full f s ↔ Holds folded f (class s)
