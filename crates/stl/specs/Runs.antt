-- Runs: non-empty lists of states joined by moves. Assumes nothing.
use Rattle.std.specs.Prelude.{◌≡◌, ℕ, ◌<◌, List, [], ◌∷◌, ◌++◌}
use Rattle.stl.specs.Structures.{Structure, Move, WellFormed}

-- s and then the states of rest are a run; its length, in moves, is the length of rest
abbrev pub Run : Structure → ℕ → List ℕ → Type 0
Run k s [] = Unit {0}
Run k s (t ∷ rest) = Move k s t × Run k t rest

-- the last state of a run from s
abbrev pub last : ℕ → List ℕ → ℕ
last s [] = s
last s (t ∷ rest) = last t rest

-- P of each state of a run from s
abbrev pub All : (ℕ → Type 0) → ℕ → List ℕ → Type 0
All P s [] = P s
All P s (t ∷ rest) = P s × All P t rest

-- what holds of the runs of every structure
pub record RunLaws : Type 0 where
  -- a run from the end of another goes on with it
  pub joins : (k : Structure) (s : ℕ) (xs ys : List ℕ) → Run k s xs → Run k (last s xs) ys → Run k s (xs ++ ys)
  -- and ends where the second ends
  pub ends : (s : ℕ) (xs ys : List ℕ) → last s (xs ++ ys) ≡ last (last s xs) ys
  -- a run from a state goes through states alone
  pub stays : (k : Structure) → WellFormed k → (s : ℕ) (xs : List ℕ) → s < k.size → Run k s xs → All (λ t. t < k.size) s xs
