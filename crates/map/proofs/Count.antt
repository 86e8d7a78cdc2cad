-- The lowest no and the greatest value. Assumes nothing.
use Rattle.std.proofs.Common.{◌≡◌, ℕ, zero, suc, ◌<◌, ◌≤◌, max, Bool, true, false, cond, Some, None, Option, sym, refl, ap, ◌∙◌, subst, ⊎_elim, arith}
use Rattle.std.proofs.lemmas.Bool.{cases_Bool, cases_lt, cases_eq, cond-true, cond-false}
use Rattle.map.specs.Counts.{or_else, lowest_no, greatest, CountLaws}
use Rattle.map.specs.Searches.{LowestNo}

-- nothing is both there and not there
pub never_none : {X : Type 0} {P : Type 0} (x : X) → Some x ≡ None → P
never_none x e = let z : ◌≡◌ {A = ℕ} 0 1 = cc in absurd (omega arith)

module _ (f : ℕ → Bool) where
  pub none_no : (n : ℕ) → ((i : ℕ) → i < n → f i ≡ true) → lowest_no f n ≡ None
  none_no zero h = refl
  none_no (suc n) h =
      ap (λ o. or_else o (cond (f n) None (Some n))) (none_no n (λ i l. h i (omega arith))) ∙ cond-true (f n) None (Some n) (h n (omega arith))

  -- the answer at n after a front without a no
  last_step : (n : ℕ) (o : Option ℕ) → or_else o (cond (f n) None (Some n)) ≡ None → (o ≡ None) × (f n ≡ true)
  last_step n None e =
      ⊎_elim (λ t. (refl, t)) (λ t. never_none n (sym (cond-false (f n) None (Some n) t) ∙ e)) (cases_Bool (f n))
  last_step n (Some i) e = never_none i e

  pub all_yes : (n : ℕ) → lowest_no f n ≡ None → (i : ℕ) → i < n → f i ≡ true
  all_yes zero e i h = absurd (omega arith)
  all_yes (suc n) e i h =
      let front = last_step n (lowest_no f n) e in
      ⊎_elim (λ q. subst (λ k. f k ≡ true) (sym q) front.1) (λ q. all_yes n front.0 i (omega arith)) (cases_eq i n)

  pub no_is : (n i : ℕ) → i < n → f i ≡ false → ((j : ℕ) → j < i → f j ≡ true) → lowest_no f n ≡ Some i
  no_is zero i h e lower = absurd (omega arith)
  no_is (suc n) i h e lower =
      ⊎_elim
      (λ l. ap (λ o. or_else o (cond (f n) None (Some n))) (no_is n i l e lower))
      (λ l. let q : n ≡ i = omega arith in
      ap (λ o. or_else o (cond (f n) None (Some n))) (none_no n (λ j g. lower j (omega arith))) ∙ cond-false (f n) None (Some n) (subst (λ k. f k ≡ false) (sym q) e) ∙ ap Some q)
      (cases_lt i n)

  abbrev Lowest : ℕ → ℕ → Type 0
  Lowest n i = (i < n) × (f i ≡ false) × ((j : ℕ) → j < i → f j ≡ true)

  -- a no that was found before n, or at n
  found : (n i : ℕ) (o : Option ℕ) → o ≡ lowest_no f n → ((k : ℕ) → o ≡ Some k → Lowest n k) → or_else o (cond (f n) None (Some n)) ≡ Some i → Lowest (suc n) i
  found n i None was front e =
      ⊎_elim
      (λ t. never_none i (sym e ∙ cond-true (f n) None (Some n) t))
      (λ t. let at : Some n ≡ Some i = sym (cond-false (f n) None (Some n) t) ∙ e in
      let q : n ≡ i = cc in
      (omega arith, subst (λ k. f k ≡ false) q t, λ j l. all_yes n (sym was) j (omega arith)))
      (cases_Bool (f n))
  found n i (Some k) was front e = let q : k ≡ i = cc in let p = front i e in (omega (arith, p.0), p.1, p.2)

  pub is_no : (n i : ℕ) → lowest_no f n ≡ Some i → Lowest n i
  is_no zero i e = never_none i (sym e)
  is_no (suc n) i e = found n i (lowest_no f n) refl (λ k. is_no n k) e

  -- what a test that is led by Says finds is the lowest no, where Says agrees with f
  pub lowest_as : {Says : ℕ → Bool → Type 0} (n : ℕ) (o : Option ℕ) → LowestNo Says n o → ((i : ℕ) → i < n → Says i true → f i ≡ true) → ((i : ℕ) → i < n → Says i false → f i ≡ false) → o ≡ lowest_no f n
  lowest_as n None p right wrong = sym (none_no n (λ i h. right i h (p.none refl i h)))
  lowest_as n (Some i) p right wrong = let x = p.some i refl in sym (no_is n i x.0 (wrong i x.0 x.1) (λ j h. right j (omega (arith, x.0)) (x.2 j h)))

module _ (f : ℕ → ℕ) where
  pub above : (n i : ℕ) → i < n → f i ≤ greatest f n
  above zero i h = absurd (omega arith)
  above (suc n) i h =
      ⊎_elim (λ l. let u = above n i l in omega arith) (λ l. let q : i ≡ n = omega arith in subst (λ k. f k ≤ max (greatest f n) (f n)) (sym q) (omega arith)) (cases_lt i n)

  pub met : (n : ℕ) → 0 < greatest f n → (i : ℕ) × (i < n) × (f i ≡ greatest f n)
  met zero h = absurd (omega arith)
  met (suc n) h =
      ⊎_elim
      (λ l. let p = met n (omega arith) in (p.0, omega (arith, p.1), omega (arith, p.2)))
      (λ l. (n, omega arith, omega arith))
      (cases_lt (f n) (greatest f n))

pub count_laws : CountLaws
count_laws = record { all_yes = all_yes; none_no = none_no; is_no = is_no; no_is = no_is; above = above; met = met }
