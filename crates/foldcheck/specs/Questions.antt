-- A question of a state that is asked for each move. Assumes nothing.
use Rattle.std.specs.Prelude.{◌≡◌, ℕ, Bool, List}
use Rattle.map.specs.Meaning.{Meaning, structure}
use Rattle.sharing.specs.Accepts.{class_of}
use Rattle.stl.specs.Structures.{Move}

-- a move from s to a state of class d
abbrev pub MovesInto : {L : Type 0} → (L → ℕ → Bool) → Meaning L → List ℕ → ℕ → ℕ → Type 0
MovesInto sign full table s d = (t : ℕ) × Move (structure sign full) s t × (class_of table t ≡ d)
