-- Until, told in other ways. Assumes nothing.
use Rattle.std.proofs.Common.{ℕ, ◌⊎◌, List, [], ◌∷◌, inl, inr}
use Rattle.stl.specs.Formulas.{Holds, UntilLaws}
use Rattle.stl.specs.Runs.{Run, last, All}
use Rattle.stl.specs.Structures.{Structure, Move}
use Rattle.stl.specs.Until.{Reaches, Until, AllButLast}

module _ (k : Structure) (A B : ℕ → Type 0) where
  abbrev ByRun : ℕ → Type 0
  ByRun s = (rest : List ℕ) × Run k s rest × B (last s rest) × AllButLast A s rest

  -- the run as far as its first state in B
  cut : (s : ℕ) (rest : List ℕ) → Run k s rest → B (last s rest) → All (λ t. A t ⊎ B t) s rest → ByRun s
  cut s [] run ends keeps = ([], tt, ends, tt)
  cut s (t ∷ rest) run ends keeps = here (cut t rest run.1 ends keeps.1) keeps.0
    where
      here : ByRun t → A s ⊎ B s → ByRun s
      here p (inl a) = (t ∷ p.0, (run.0, p.1), p.2, (a, p.3))
      here p (inr b) = ([], tt, b, tt)

  all_along : (s : ℕ) (rest : List ℕ) → B (last s rest) → AllButLast A s rest → All (λ t. A t ⊎ B t) s rest
  all_along s [] ends keeps = inr ends
  all_along s (t ∷ rest) ends keeps = (inl keeps.0, all_along t rest ends keeps.1)

  step : (s : ℕ) → Until k A B s → B s ⊎ (A s × ((t : ℕ) × Move k s t × Until k A B t))
  step s u = go u.0 u.1
    where
      go : (rest : List ℕ) → Reaches k A B s rest → B s ⊎ (A s × ((t : ℕ) × Move k s t × Until k A B t))
      go [] r = inl r.ends
      go (t ∷ rest) r = or_else r.keeps.0
        where
          or_else : A s ⊎ B s → B s ⊎ (A s × ((t : ℕ) × Move k s t × Until k A B t))
          or_else (inl a) = inr (a, (t, r.run.0, (rest, record { run = r.run.1; ends = r.ends; keeps = r.keeps.1 })))
          or_else (inr b) = inl b

  unstep : (s : ℕ) → B s ⊎ (A s × ((t : ℕ) × Move k s t × Until k A B t)) → Until k A B s
  unstep s (inl b) = ([], record { run = tt; ends = b; keeps = inr b })
  unstep s (inr p) =
      let on = p.1 in
      let r = on.2.1 in
      (on.0 ∷ on.2.0, record { run = (on.1, r.run); ends = r.ends; keeps = (inl p.0, r.keeps) })

pub until_laws : UntilLaws
until_laws = record {
  by_run = λ k f g s. (
    (λ u. cut k (Holds k f) (Holds k g) s u.0 u.1.run u.1.ends u.1.keeps),
    (λ p. (p.0, record { run = p.1; ends = p.2; keeps = all_along k (Holds k f) (Holds k g) s p.0 p.2 p.3 })),
  );
  by_step = λ k f g s. (step k (Holds k f) (Holds k g) s, unstep k (Holds k f) (Holds k g) s);
}
