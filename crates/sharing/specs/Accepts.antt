-- When a class table folds a full map onto a folded one: eight questions, each answered yes. Assumes nothing.
-- The table gives each full state its class, a folded state.
use Rattle.std.specs.Prelude.{◌≡◌, ℕ, ◌<◌, Bool, true, false, List, length, Some, None, Option, slice_index}
use Rattle.map.specs.Meaning.{Meaning, structure}
use Rattle.stl.specs.Structures.{Move}

-- the class of s
abbrev pub class_of : List ℕ → ℕ → ℕ
class_of table s = slice_index table s

-- both looks are there, and they are the same
abbrev pub same_look : {L : Type 0} → (L → L → Bool) → Option L → Option L → Bool
same_look same None b = false
same_look same (Some a) None = false
same_look same (Some a) (Some b) = same a b

-- what is asked of one state: s and t are full states, d is a folded one
module _ {L : Type 0} (sign : L → ℕ → Bool) (same : L → L → Bool) (full folded : Meaning L) (table : List ℕ) where
  -- the class of s is a folded state
  abbrev pub HasClass : ℕ → Type 0
  HasClass s = class_of table s < folded.size

  -- s and its class have the same look
  abbrev pub LooksAlike : ℕ → Type 0
  LooksAlike s = same_look same (full.look s) (folded.look (class_of table s)) ≡ true

  -- every move from s has a move between the classes
  abbrev pub MovesForth : ℕ → Type 0
  MovesForth s = (t : ℕ) → Move (structure sign full) s t → Move (structure sign folded) (class_of table s) (class_of table t)

  -- for every move from the class of s, s moves to a state of that class
  abbrev pub MovesBack : ℕ → Type 0
  MovesBack s = (d : ℕ) → Move (structure sign folded) (class_of table s) d → (t : ℕ) × Move (structure sign full) s t × (class_of table t ≡ d)

  -- the class of a start is a start
  abbrev pub StartsForth : ℕ → Type 0
  StartsForth s = full.start s ≡ true → folded.start (class_of table s) ≡ true

  -- a folded start is the class of a start
  abbrev pub StartsBack : ℕ → Type 0
  StartsBack d = folded.start d ≡ true → (s : ℕ) × (s < full.size) × (full.start s ≡ true) × (class_of table s ≡ d)

  -- d is the class of a state
  abbrev pub IsClass : ℕ → Type 0
  IsClass d = (s : ℕ) × (s < full.size) × (class_of table s ≡ d)

  -- the table is a fold: a yes to all eight questions
  pub record Accepts : Type 0 where
    -- an entry for each full state, and no other
    pub sized : length table ≡ full.size
    pub within : (s : ℕ) → s < full.size → HasClass s
    pub looks : (s : ℕ) → s < full.size → LooksAlike s
    pub forth : (s : ℕ) → s < full.size → MovesForth s
    pub back : (s : ℕ) → s < full.size → MovesBack s
    pub starts : (s : ℕ) → s < full.size → StartsForth s
    pub started : (d : ℕ) → d < folded.size → StartsBack d
    pub onto : (d : ℕ) → d < folded.size → IsClass d
