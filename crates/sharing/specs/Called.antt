-- One call more of two sessions side by side. Assumes nothing.
use Rattle.std.specs.Prelude.{ℕ, Bool, List, ◌∷◌}
use Rattle.calls.specs.Histories.{Moment}
use Rattle.map.specs.Meaning.{Meaning, structure}
use Rattle.stl.specs.Structures.{Structure}
use Rattle.sharing.specs.Accepts.{class_of, Accepts}
use Rattle.sharing.specs.Pairs.{ForWitness, SameRoom, SideBySide}
use Rattle.sharing.specs.Shares.{Shared}

-- with it they are side by side again, and share
pub record CalledBoth (full folded : Structure) (class : ℕ → ℕ) (m n : Moment) (ms ns : List Moment) : Type 0 where
  pub pair : SideBySide full folded class m.after n.after m.left.sheet n.left.sheet (m ∷ ms) (n ∷ ns)
  pub shared : Shared full folded class m.after n.after m.left.sheet n.left.sheet (m ∷ ms) (n ∷ ns)

-- so it is across an accepted fold, whatever was asked before, where a witness is lent the same room
abbrev pub AfterBoth : {L : Type 0} → (L → ℕ → Bool) → (L → L → Bool) → Meaning L → Meaning L → List ℕ → Moment → Moment → Type 0
AfterBoth sign same full folded table m n =
    Accepts sign same full folded table →
    (ms ns : List Moment) → SideBySide (structure sign full) (structure sign folded) (class_of table) m.before n.before m.given.sheet n.given.sheet ms ns →
    ForWitness m.asked (SameRoom (structure sign full) (structure sign folded) m.given n.given) →
    CalledBoth (structure sign full) (structure sign folded) (class_of table) m n ms ns
