-- Runs, one move at a time. Assumes nothing.
use Rattle.std.proofs.Common.{◌≡◌, ℕ, ◌<◌, List, [], ◌∷◌, ◌++◌, refl}
use Rattle.stl.specs.Structures.{Structure, WellFormed}
use Rattle.stl.specs.Runs.{Run, last, All, RunLaws}

joined : (k : Structure) (s : ℕ) (xs ys : List ℕ) → Run k s xs → Run k (last s xs) ys → Run k s (xs ++ ys)
joined k s [] ys p q = q
joined k s (t ∷ xs) ys p q = (p.0, joined k t xs ys p.1 q)

joined_last : (s : ℕ) (xs ys : List ℕ) → last s (xs ++ ys) ≡ last (last s xs) ys
joined_last s [] ys = refl
joined_last s (t ∷ xs) ys = joined_last t xs ys

stays_in : (k : Structure) → WellFormed k → (s : ℕ) (xs : List ℕ) → s < k.size → Run k s xs → All (λ t. t < k.size) s xs
stays_in k w s [] h p = h
stays_in k w s (t ∷ xs) h p = (h, stays_in k w t xs (w.targets s t h p.0) p.1)

pub run_laws : RunLaws
run_laws = record { joins = joined; ends = joined_last; stays = stays_in }
