-- Runs that end in B with A or B all along, and the shortest of them. A and B say of a state whether it has something.
-- Assumes nothing.
use Rattle.std.specs.Prelude.{◌≡◌, ℕ, ◌<◌, ◌≤◌, ◌⊎◌, List, [], ◌∷◌, length}
use Rattle.stl.specs.Runs.{Run, last, All}
use Rattle.stl.specs.Structures.{Structure}

-- a run from s that ends in B, each of its states in A or B; a run of no moves counts
pub record Reaches (k : Structure) (A B : ℕ → Type 0) (s : ℕ) (rest : List ℕ) : Type 0 where
  pub run : Run k s rest
  pub ends : B (last s rest)
  pub keeps : All (λ t. A t ⊎ B t) s rest

-- one with as few moves as any
pub record Shortest (k : Structure) (A B : ℕ → Type 0) (s : ℕ) (rest : List ℕ) : Type 0 where
  pub reaches : Reaches k A B s rest
  pub least : (other : List ℕ) → Reaches k A B s other → length rest ≤ length other

-- n is the length of a shortest run from s
abbrev pub Length : Structure → (ℕ → Type 0) → (ℕ → Type 0) → ℕ → ℕ → Type 0
Length k A B s n = (rest : List ℕ) × Shortest k A B s rest × (length rest ≡ n)

-- n is the greatest of the shortest lengths, 0 where there is none
pub record Greatest (k : Structure) (A B : ℕ → Type 0) (n : ℕ) : Type 0 where
  pub above : (s m : ℕ) → s < k.size → Length k A B s m → m ≤ n
  pub met : 0 < n → (s : ℕ) × (s < k.size) × Length k A B s n

-- A until B at s: there is such a run
abbrev pub Until : Structure → (ℕ → Type 0) → (ℕ → Type 0) → ℕ → Type 0
Until k A B s = (rest : List ℕ) × Reaches k A B s rest

-- P of each state of a run from s but the last
abbrev pub AllButLast : (ℕ → Type 0) → ℕ → List ℕ → Type 0
AllButLast P s [] = Unit {0}
AllButLast P s (t ∷ rest) = P s × AllButLast P t rest
