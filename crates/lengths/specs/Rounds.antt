-- Shortest lengths, found round by round: what a work table holds after round d, and a run read off it. Assumes nothing.
use Rattle.std.specs.Prelude.{◌≡◌, ℕ, ◌+◌, ◌<◌, ◌≤◌, Bool, true, false, ◌⊎◌, List, [], ◌∷◌, ◌++◌, length, drop, ◌≢◌, slice_index}
use Rattle.stl.specs.Structures.{Structure, Move}
use Rattle.stl.specs.Until.{Reaches, Length}

-- the entry w of state s after round d: its shortest length, at most d; or 4294967295, and every run from s is longer than d
abbrev pub Known : Structure → (ℕ → Type 0) → (ℕ → Type 0) → ℕ → ℕ → ℕ → Type 0
Known k A B d s w = ((w ≤ d) × Length k A B s w) ⊎ ((w ≡ 4294967295) × ((rest : List ℕ) → Reaches k A B s rest → d < length rest))

-- the table after round d
abbrev pub Round : Structure → (ℕ → Type 0) → (ℕ → Type 0) → ℕ → List ℕ → Type 0
Round k A B d work = (s : ℕ) → s < k.size → Known k A B d s (slice_index work s)

-- a move from s leads to a state with the entry d
abbrev pub StepsTo : Structure → List ℕ → ℕ → ℕ → Type 0
StepsTo k work d s = (t : ℕ) × Move k s t × (slice_index work t ≡ d)

-- s gets the length d + 1: it has no length yet, it is in A, and a move leads to the entry d
abbrev pub Due : Structure → (ℕ → Type 0) → List ℕ → ℕ → ℕ → Type 0
Due k A work d s = (slice_index work s ≡ 4294967295) × A s × StepsTo k work d s

-- round 0 is done at the first i states; the other entries are as they were
pub record Begun (k : Structure) (A B : ℕ → Type 0) (i : ℕ) (before work : List ℕ) : Type 0 where
  pub sized : length work ≡ length before
  pub done : (s : ℕ) → s < i → Known k A B 0 s (slice_index work s)
  pub past : (s : ℕ) → i ≤ s → slice_index work s ≡ slice_index before s

-- round d + 1 is done at the first i states, round d at the others; found says whether a state got its length
pub record Swept (k : Structure) (A B : ℕ → Type 0) (d i : ℕ) (before work : List ℕ) (found : Bool) : Type 0 where
  pub sized : length work ≡ length before
  pub done : (s : ℕ) → s < i → s < k.size → Known k A B (d + 1) s (slice_index work s)
  pub todo : (s : ℕ) → i ≤ s → s < k.size → Known k A B d s (slice_index work s)
  pub past : (s : ℕ) → k.size ≤ s → slice_index work s ≡ slice_index before s
  pub some : found ≡ true → (s : ℕ) × (s < k.size) × Length k A B s (d + 1)
  pub none : found ≡ false → (s : ℕ) → s < i → s < k.size → slice_index work s ≢ d + 1

-- a run down the table: each move leads to an entry that is one less, and the last entry is 0
abbrev pub Descends : Structure → List ℕ → ℕ → List ℕ → Type 0
Descends k work s [] = slice_index work s ≡ 0
Descends k work s (t ∷ rest) = Move k s t × (slice_index work s ≡ slice_index work t + 1) × Descends k work t rest

-- from each state whose entry is a length above 0, a move leads one down
abbrev pub Falls : Structure → List ℕ → Type 0
Falls k work = (s m : ℕ) → s < k.size → m + 1 < 4294967295 → slice_index work s ≡ m + 1 → StepsTo k work m s

-- the first entries are a run down the table, s first; the others are as they were
pub record Drawn (k : Structure) (work : List ℕ) (s : ℕ) (before after : List ℕ) : Type 0 where
  pub rest : List ℕ
  pub long : length rest ≡ slice_index work s
  pub down : Descends k work s rest
  pub holds : after ≡ (s ∷ rest) ++ drop (slice_index work s + 1) before
