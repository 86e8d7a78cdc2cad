-- What is found in the targets of a state, as a question of its moves. Assumes nothing.
use Rattle.std.proofs.Common.{◌≡◌, ℕ, ◌<◌, Bool, true, false, not, List, length, get_or, is_some, Some, None, Option, Decides, refl, sym, ap, ◌∙◌, subst, true≢false}
use Rattle.std.proofs.Math.Bool.{not-not}
use Rattle.std.specs.Prelude.{MatchOption}
use Rattle.map.specs.Searches.{FirstPick}

module _ (Says : ℕ → Bool → Type 0) (xs : List ℕ) (P : ℕ → Type 0) where
  -- a target that has P is picked exactly where there is one
  pub some_pick : (o : Option ℕ) → FirstPick xs Says o → ((t : ℕ) (b : Bool) → Says t b → Decides b (P t)) →
      Decides (is_some o) ((t : ℕ) × ((i : ℕ) × (i < length xs) × (get_or xs i 0 ≡ t)) × P t)
  some_pick None f told = ((λ e. absurd (true≢false (sym e))), (λ h. (told h.0 false (subst (λ t. Says t false) h.1.2 (f.none refl h.1.0 h.1.1))).1 h.2))
  some_pick (Some t) f told = ((λ _. let p = f.some t refl in (t, (p.0, p.1, p.2), (told t true p.3).0 refl)), (λ _. refl))

  -- none that lacks P is picked exactly where all have it
  pub no_pick : (o : Option ℕ) → FirstPick xs Says o → ((t : ℕ) (b : Bool) → Says t b → Decides (not b) (P t)) →
      Decides (not (is_some o)) ((t : ℕ) → ((i : ℕ) × (i < length xs) × (get_or xs i 0 ≡ t)) → P t)
  no_pick None f told = ((λ _ t h. subst P h.2 ((told _ false (f.none refl h.0 h.1)).0 refl)), (λ _. refl))
  no_pick (Some t) f told = ((λ e. absurd (true≢false (sym e))), (λ h. let p = f.some t refl in absurd (true≢false (sym ((told t true p.3).1 (h t (p.0, p.1, p.2)))))))

-- a target that is t
pub same_target : {r : Bool} (xs : List ℕ) (t : ℕ) → Decides r ((x : ℕ) × ((i : ℕ) × (i < length xs) × (get_or xs i 0 ≡ x)) × (x ≡ t)) → Decides r ((i : ℕ) × (i < length xs) × (get_or xs i 0 ≡ t))
same_target xs t d = ((λ e. let x = d.0 e in (x.1.0, x.1.1, x.1.2 ∙ x.2)), (λ m. d.1 (t, m, refl)))

-- the answer of `is_none`, for that of `is_some`
pub none_from : {P : Type 0} {a b : Bool} → a ≡ not b → Decides (not a) P → Decides b P
none_from {P} {a} {b} e d = subst (λ r. Decides r P) (ap not e ∙ not-not b) d

-- the first pick of a list, told in another way
pub told_pick : {N : Type 0} {R : ℕ → Type 0} {xs : List ℕ} {Says : ℕ → Bool → Type 0} (o : Option ℕ) → FirstPick xs Says o →
    (((t : ℕ) → ((i : ℕ) × (i < length xs) × (get_or xs i 0 ≡ t)) → Says t false) → N) →
    ((t : ℕ) → ((i : ℕ) × (i < length xs) × (get_or xs i 0 ≡ t)) → Says t true → R t) →
    MatchOption o N R
told_pick {Says = Says} None p none some = none (λ t m. subst (λ t. Says t false) m.2 (p.none refl m.0 m.1))
told_pick (Some t) p none some = let x = p.some t refl in some t (x.0, x.1, x.2) x.3
