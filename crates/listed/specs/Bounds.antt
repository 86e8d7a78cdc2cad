-- The map that tables make keeps to the bounds of all maps. This stands beside the definitions since each listed map
-- carries it. Assumes nothing.
use Rattle.std.specs.Prelude.{◌≡◌, ℕ, ◌+◌, ◌-◌, ◌<◌, ◌≤◌, cond, List, [], ◌∷◌, length, drop, is_some, Some, None, Option, nat_lt, slice_index, slice_index_or, refl}
use Rattle.std.proofs.Common.{⊎_elim, sym, ap, subst, ◌∙◌, arith}
use Rattle.std.proofs.lemmas.List.{length-take, length-drop, get_or-take, get_or-drop}
use Rattle.std.proofs.lemmas.Option.{slice_get-get_or, slice_get_past}
use Rattle.std.proofs.lemmas.Bool.{and_parts, cond-true, cond-false, lt-ltb, le-ltb, ltb-true, cases_lt}
use Rattle.std.specs.List.{slice_get}
use Rattle.map.specs.Meaning.{Bounded}
use Rattle.map.specs.Questions.{first_no}
use Rattle.listed.specs.Sound.{Sound, sound, few, within}
use Rattle.listed.specs.Tables.{Tables, questions, list_of, listed}
use Rattle.listed.specs.declared.fault.ListedFault.{ListedFault}

module _ {L : Type 0} where
  -- a list has what lies between its first and the next one
  pub list_long : (t : Tables L) → Sound t → (s : ℕ) → s < length t.looks → length (list_of t s) ≡ slice_index t.firsts (s + 1) - slice_index t.firsts s
  list_long t p s h = let w = within p (s + 1) (omega arith) in simp (length-take, length-drop) (omega arith)

  -- and its entries are targets
  list_at : (t : Tables L) → Sound t → (s i : ℕ) → s < length t.looks → i < length (list_of t s) → slice_index (list_of t s) i < length t.looks
  list_at t p s i h l =
      let long = list_long t p s h in
      let w = within p (s + 1) (omega arith) in
      let first = slice_index_or t.firsts s 0 in
      let e = get_or-take (slice_index t.firsts (s + 1) - first) (drop first t.targets) i 0 (omega arith) ∙ get_or-drop first t.targets i 0 in
      omega (arith, e, p.below (first + i) (omega arith))

  -- what holds of the list of each state and of the empty list holds of every list
  by_list : (t : Tables L) (P : List ℕ → Type 0) (s : ℕ) → (s < length t.looks → P (list_of t s)) → P [] → P (cond (nat_lt s (length t.looks)) (list_of t s) [])
  by_list t P s there empty =
      ⊎_elim
      (λ l. subst P (sym (cond-true (nat_lt s (length t.looks)) (list_of t s) [] (lt-ltb _ _ l))) (there l))
      (λ l. subst P (sym (cond-false (nat_lt s (length t.looks)) (list_of t s) [] (le-ltb _ _ l))) empty)
      (cases_lt s (length t.looks))

  some_look : (xs : List L) (s : ℕ) → is_some (slice_get xs s) ≡ nat_lt s (length xs)
  some_look xs s =
      ⊎_elim
      (λ l. there xs s l)
      (λ l. ap is_some (slice_get_past xs s l) ∙ sym (le-ltb _ _ l))
      (cases_lt s (length xs))
    where
      there : (xs : List L) (s : ℕ) → s < length xs → is_some (slice_get xs s) ≡ nat_lt s (length xs)
      there [] s l = absurd (omega arith)
      there (x ∷ xs) s l = ap is_some (slice_get-get_or (x ∷ xs) s x l) ∙ sym (lt-ltb _ _ l)

  pub bounded : (fault : Option ListedFault) (t : Tables L) → fault ≡ first_no (questions t) → Bounded (listed fault t)
  bounded None t e =
      let p = sound (sym e) in
      record {
        size_fits = p.small;
        list_fits = λ s. by_list t (λ xs. length xs ≤ 32768) s (λ l. let w = within p (s + 1) (omega arith) in omega (arith, list_long t p s l, few p)) (omega arith);
        targets_fit = λ s i. by_list t (λ xs. i < length xs → slice_index xs i < length t.looks) s (λ l h. list_at t p s i l h) (λ h. absurd (omega arith));
        starts_fit = λ s h. ltb-true _ _ (and_parts (nat_lt s (length t.looks)) _ h).0;
        shown = λ s. some_look t.looks s;
        no_list = λ s h. ap length (cond-false (nat_lt s (length t.looks)) (list_of t s) [] (le-ltb _ _ h));
      }
  bounded (Some fault) t e = record {
    size_fits = omega arith;
    list_fits = λ s. omega arith;
    targets_fit = λ s i h. absurd (omega arith);
    starts_fit = λ s h. let z : ◌≡◌ {A = ℕ} 0 1 = cc in absurd (omega arith);
    shown = λ s. sym (le-ltb s 0 (omega arith));
    no_list = λ s h. refl;
  }
