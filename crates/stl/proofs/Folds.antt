-- A fold keeps what a state satisfies, and takes runs to runs both ways. Assumes nothing.
use Rattle.std.specs.Prelude.{◌↔◌}
use Rattle.std.proofs.Common.{◌≡◌, ℕ, ◌<◌, ◌⊎◌, List, [], ◌∷◌, map, sym, refl, ◌∙◌, subst, inl, inr}
use Rattle.stl.specs.Folds.{Folds, FoldsKeepRules}
use Rattle.stl.specs.Formulas.{Formula, top, sign, neg, or, next, until, Holds}
use Rattle.stl.specs.Runs.{Run, last, All}
use Rattle.stl.specs.Structures.{Structure, WellFormed}
use Rattle.stl.specs.Until.{Reaches}

-- P of a state of the full structure is Q of its class
abbrev pub Across : Structure → (ℕ → ℕ) → (ℕ → Type 0) → (ℕ → Type 0) → Type 0
Across full class P Q = (s : ℕ) → s < full.size → P s ↔ Q (class s)

-- what is either is either across
pub either : {A B C D : Type 0} → A ↔ C → B ↔ D → (A ⊎ B) ↔ (C ⊎ D)
either {A} {B} {C} {D} f g = (there, again)
  where
    there : A ⊎ B → C ⊎ D
    there (inl a) = inl (f.0 a)
    there (inr b) = inr (g.0 b)

    again : C ⊎ D → A ⊎ B
    again (inl c) = inl (f.1 c)
    again (inr d) = inr (g.1 d)

module _ (full folded : Structure) (class : ℕ → ℕ) (well : WellFormed full) (fold : Folds full folded class) where
  -- what holds of the states of a run goes along with the fold
  along : (P Q : ℕ → Type 0) → Across full class P Q → (s : ℕ) (rest : List ℕ) → s < full.size → Run full s rest → All P s rest → All Q (class s) (map class rest)
  along P Q f s [] h r a = (f s h).0 a
  along P Q f s (t ∷ rest) h r a = ((f s h).0 a.0, along P Q f t rest (well.targets s t h r.0) r.1 a.1)

  -- a run read through the fold is a run
  onward : (s : ℕ) (rest : List ℕ) → s < full.size → Run full s rest → Run folded (class s) (map class rest)
  onward s [] h r = tt
  onward s (t ∷ rest) h r = (fold.forth s t h r.0, onward t rest (well.targets s t h r.0) r.1)

  -- the last state read through the fold
  ended : (s : ℕ) (rest : List ℕ) → last (class s) (map class rest) ≡ class (last s rest)
  ended s [] = refl
  ended s (t ∷ rest) = ended t rest

  -- a run ends in a state
  stays : (s : ℕ) (rest : List ℕ) → s < full.size → Run full s rest → last s rest < full.size
  stays s [] h r = h
  stays s (t ∷ rest) h r = stays t rest (well.targets s t h r.0) r.1

  module _ (A B C D : ℕ → Type 0) (f : Across full class A C) (g : Across full class B D) where
    -- a run of the full structure, read through the fold
    pub through : (s : ℕ) (rest : List ℕ) → s < full.size → Reaches full A B s rest → Reaches folded C D (class s) (map class rest)
    through s rest h r = record {
      run = onward s rest h r.run;
      ends = subst D (sym (ended s rest)) ((g (last s rest) (stays s rest h r.run)).0 r.ends);
      keeps = along (λ t. A t ⊎ B t) (λ t. C t ⊎ D t) (λ t k. either (f t k) (g t k)) s rest h r.run r.keeps;
    }

    -- a run of the folded structure is that of a run of the full one
    pub lifted : (s : ℕ) (rest : List ℕ) → s < full.size → Reaches folded C D (class s) rest → (over : List ℕ) × Reaches full A B s over × (map class over ≡ rest)
    lifted s [] h r = ([], record { run = tt; ends = (g s h).1 r.ends; keeps = (either (f s h) (g s h)).1 r.keeps }, refl)
    lifted s (d ∷ rest) h r =
        let step = fold.back s d h r.run.0 in
        let t = step.0 in
        let again : Reaches folded C D (class t) rest = subst (λ e. Reaches folded C D e rest) (sym step.2) (record { run = r.run.1; ends = r.ends; keeps = r.keeps.1 }) in
        let more = lifted t rest (well.targets s t h step.1) again in
        (t ∷ more.0, record { run = (step.1, more.1.run); ends = more.1.ends; keeps = ((either (f s h) (g s h)).1 r.keeps.0, more.1.keeps) }, (λ i. step.2 i ∷ more.2 i))

  -- a state satisfies what its class satisfies
  pub both : (f : Formula) (s : ℕ) → s < full.size → Holds full f s ↔ Holds folded f (class s)
  both top s h = ((λ x. tt), (λ x. tt))
  both (sign n) s h = ((λ x. sym (fold.on s n h) ∙ x), (λ x. fold.on s n h ∙ x))
  both (neg f) s h = ((λ x y. x ((both f s h).1 y)), (λ x y. x ((both f s h).0 y)))
  both (or f g) s h = either (both f s h) (both g s h)
  both (next f) s h = (
    (λ x. (class x.0, fold.forth s x.0 h x.1, (both f x.0 (well.targets s x.0 h x.1)).0 x.2)),
    (λ x.
        let step = fold.back s x.0 h x.1 in
        (step.0, step.1, (both f step.0 (well.targets s step.0 h step.1)).1 (subst (Holds folded f) (sym step.2) x.2))),
  )
  both (until f g) s h = (
    (λ x. (map class x.0, through (Holds full f) (Holds full g) (Holds folded f) (Holds folded g) (λ t k. both f t k) (λ t k. both g t k) s x.0 h x.1)),
    (λ x.
        let over = lifted (Holds full f) (Holds full g) (Holds folded f) (Holds folded g) (λ t k. both f t k) (λ t k. both g t k) s x.0 h x.1 in
        (over.0, over.1)),
  )

-- over every two structures
pub keeps : FoldsKeepRules
keeps full folded class well fold f s h = both full folded class well fold f s h
