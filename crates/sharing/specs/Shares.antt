-- What two sessions side by side share. Assumes nothing.
use Rattle.std.specs.Prelude.{◌≡◌, ℕ, ◌+◌, ◌<◌, List, ◌∷◌, map, take, slice_index, ◌↔◌}
use Rattle.calls.specs.Answers.{State}
use Rattle.calls.specs.Histories.{Moment, Right}
use Rattle.calls.specs.declared.call.Answer.TheVariants as answer
use Rattle.calls.specs.declared.call.Call.TheVariants as call
use Rattle.stl.specs.Rows.{row_at, ForUntil, by_logic}
use Rattle.stl.specs.Structures.{Structure}
use Rattle.stl.specs.Until.{Shortest}
use Rattle.sharing.specs.Pairs.{Pairwise, SideBySide}

-- the run that a witness shows, each state replaced by its class, is a shortest run from the class on the folded structure
abbrev pub Through : Structure → (ℕ → ℕ) → Moment → Type 0
Through folded class m = (s r n : ℕ) → m.asked ≡ call.Witness s r → m.said ≡ answer.Witness n →
    ForUntil (row_at m.before.rows r)
    (λ x y. (rest : List ℕ) × (map class (take (n + 1) m.left.run) ≡ class s ∷ rest) × Shortest folded (by_logic folded m.before.rows x) (by_logic folded m.before.rows y) (class s) rest)
    ⊥

-- a call on both gave the same answer, which is the logic's on each, its run a shortest one on each and through the fold
pub record Agree (full folded : Structure) (class : ℕ → ℕ) (m n : Moment) : Type 0 where
  pub said : m.said ≡ n.said
  pub on_full : Right full m
  pub on_folded : Right folded n
  pub through : Through folded class m

-- what two sessions side by side have in common
pub record Shared (full folded : Structure) (class : ℕ → ℕ) (st su : State) (sheet other : List ℕ) (ms ns : List Moment) : Type 0 where
  -- they keep the same rows, as many of them marked
  pub kept : st ≡ su
  -- each call agrees with its like
  pub calls : Pairwise (Agree full folded class) ms ns
  -- the word of each state is the word of its class
  pub labels : (s : ℕ) → s < full.size → slice_index sheet s ≡ slice_index other (class s)

-- the promise of a fold: a session can be opened on both structures or on neither, and whatever two are asked, they share
pub record Share (full folded : Structure) (class : ℕ → ℕ) : Type 0 where
  pub opens : (0 < full.size) ↔ (0 < folded.size)
  pub sessions : (st su : State) (sheet other : List ℕ) (ms ns : List Moment) → SideBySide full folded class st su sheet other ms ns → Shared full folded class st su sheet other ms ns
