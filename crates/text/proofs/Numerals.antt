-- Numbers and their numerals. Assumes nothing.
use Rattle.std.proofs.Common.{◌≡◌, ℕ, ◌+◌, ◌-◌, ◌*◌, ◌/◌, ◌%◌, ◌^◌, ◌<◌, ◌≤◌, true, cond, not, ◌&&◌, eqb, ltb, leb, List, [], ◌∷◌, ◌++◌, map, length, get_or, drop, Some, None, Option, sym, refl, ap, ◌∙◌, subst, ⊎_elim, arith}
use Rattle.std.proofs.lemmas.Int.Digits.{digits_of_step, all_below_base_digits_of, first_digits_of, number_digits_of}
use Rattle.std.proofs.lemmas.List.{append-nil, append_assoc, map-append, at_drop_more, at_drop_all}
use Rattle.std.proofs.lemmas.Grind.{common_steps}
use Rattle.std.proofs.lemmas.Bool.{cond-true, cond-false, ne_eqb, eqb-false, ltb-true, lt-ltb, le-leb, leb-true, and_parts, and_from, cases_Bool, cases_eq, not-true, not_from_false}
use Rattle.std.specs.Int.Digits.{digits_of, number_from_digits_after, AllBelowBase}
use Rattle.text.specs.Numbers.{digit, all_digits, value_after, digits_value, well_formed, number_below, digit_bytes, written, NumberLaws}

-- what is left of a field, read on after the number so far
abbrev pub read_on : ℕ → List ℕ → Option ℕ
read_on n bs = cond (all_digits bs && ltb (value_after n bs) (2 ^ 32)) (Some (value_after n bs)) None

value_after_ge : (n : ℕ) (bs : List ℕ) → n ≤ value_after n bs
value_after_ge n [] = omega arith
value_after_ge n (b ∷ bs) = let h = value_after_ge (n * 10 + (b - 48)) bs in omega arith

-- digits

digit_from : (b : ℕ) → 48 ≤ b → b ≤ 57 → digit b ≡ true
digit_from b l h = and_from _ _ (le-leb 48 b l) (le-leb b 57 h)

pub digit_low : (b : ℕ) → digit b ≡ true → 48 ≤ b
digit_low b h = leb-true 48 b (and_parts _ _ h).0

digit_high : (b : ℕ) → digit b ≡ true → b ≤ 57
digit_high b h = leb-true b 57 (and_parts (leb 48 b) _ h).1

-- reading from the left

-- one digit more, where that is a number
abbrev pub one_more : ℕ → ℕ → Option ℕ
one_more n b = cond (digit b && ltb (n * 10 + (b - 48)) (2 ^ 32)) (Some (n * 10 + (b - 48))) None

module _ (n : ℕ) (xs : List ℕ) (i : ℕ) (h : i < length xs) where
  pub read_stops : one_more n (get_or xs i 0) ≡ None → read_on n (drop i xs) ≡ None
  read_stops e = at_drop_more (read_on n) xs i 0 h ∙ grind (arith, common_steps, e, value_after_ge (n * 10 + (get_or xs i 0 - 48)) (drop (i + 1) xs))

-- digits as bytes

abbrev as_byte : ℕ → ℕ
as_byte d = d + 48

bytes_are_digits : (ds : List ℕ) → AllBelowBase 10 ds → all_digits (map as_byte ds) ≡ true
bytes_are_digits [] u = refl
bytes_are_digits (d ∷ ds) u = and_from _ _ (digit_from (d + 48) (omega arith) (let l : d < 10 = u.0 in omega arith)) (bytes_are_digits ds u.1)

bytes_value : (n : ℕ) (ds : List ℕ) → value_after n (map as_byte ds) ≡ number_from_digits_after 10 n ds
bytes_value n [] = refl
bytes_value n (d ∷ ds) = let e : d + 48 - 48 ≡ d = omega arith in ap (λ k. value_after (n * 10 + k) (map as_byte ds)) e ∙ bytes_value (n * 10 + d) ds

-- digits with no zero in front are well formed
front_formed : (ds : List ℕ) → AllBelowBase 10 ds → 0 < get_or ds 0 0 → well_formed (map as_byte ds) ≡ true
front_formed [] u h = absurd (omega arith)
front_formed (d ∷ []) u h = (and_parts _ true (bytes_are_digits (d ∷ []) u)).0
front_formed (d ∷ (e ∷ ds)) u h = and_from _ _ (not_from_false _ (ne_eqb (d + 48) 48 (λ z. omega arith))) (bytes_are_digits (d ∷ (e ∷ ds)) u)

bytes_formed : (n : ℕ) → 0 < n → well_formed (digit_bytes n) ≡ true
bytes_formed n h = front_formed (digits_of 10 n) (all_below_base_digits_of 10 n (omega arith)) (first_digits_of 10 n (omega arith) h)

bytes_back : (n : ℕ) → digits_value (digit_bytes n) ≡ n
bytes_back n = bytes_value 0 (digits_of 10 n) ∙ number_digits_of 10 n (omega arith)

byte_after : (n b : ℕ) → 0 < n → 48 ≤ b → b ≤ 57 → digit_bytes (n * 10 + (b - 48)) ≡ digit_bytes n ++ (b ∷ [])
byte_after n b h low high =
    let q : (n * 10 + (b - 48)) / 10 ≡ n = omega arith in
    let r : (n * 10 + (b - 48)) % 10 + 48 ≡ b = omega arith in
    ap (map as_byte) (digits_of_step 10 (n * 10 + (b - 48)) (omega arith) (omega arith))
    ∙ map-append as_byte (digits_of 10 ((n * 10 + (b - 48)) / 10)) (((n * 10 + (b - 48)) % 10) ∷ [])
    ∙ ap (λ k. digit_bytes k ++ (((n * 10 + (b - 48)) % 10 + 48) ∷ [])) q
    ∙ ap (λ k. digit_bytes n ++ (k ∷ [])) r

-- digits written after a number
bytes_after : (n : ℕ) (bs : List ℕ) → 0 < n → all_digits bs ≡ true → digit_bytes (value_after n bs) ≡ digit_bytes n ++ bs
bytes_after n [] h a = sym (append-nil (digit_bytes n))
bytes_after n (b ∷ bs) h a =
    let d = and_parts (digit b) (all_digits bs) a in
    let low = digit_low b d.0 in
    let high = digit_high b d.0 in
    bytes_after (n * 10 + (b - 48)) bs (omega arith) d.1
    ∙ ap (λ t. t ++ bs) (byte_after n b h low high)
    ∙ append_assoc (digit_bytes n) (b ∷ []) bs

-- one digit that is not 0
one_digit : (b : ℕ) → 48 < b → b ≤ 57 → digit_bytes (b - 48) ≡ b ∷ []
one_digit b low high =
    let q : (b - 48) / 10 ≡ 0 = omega arith in
    let r : (b - 48) % 10 + 48 ≡ b = omega arith in
    ap (map as_byte) (digits_of_step 10 (b - 48) (omega arith) (omega arith))
    ∙ map-append as_byte (digits_of 10 ((b - 48) / 10)) (((b - 48) % 10) ∷ [])
    ∙ ap (λ k. digit_bytes k ++ (((b - 48) % 10 + 48) ∷ [])) q
    ∙ ap (λ k. k ∷ []) r

written_some : (n : ℕ) → 0 < n → written n ≡ digit_bytes n
written_some n h = cond-false _ _ _ (ne_eqb n 0 (λ e. omega arith))

-- a field of digits with no zero in front is the numeral of its value
front_written : (b : ℕ) (bs : List ℕ) → 48 < b → all_digits (b ∷ bs) ≡ true → b ∷ bs ≡ written (digits_value (b ∷ bs))
front_written b bs low a =
    let d = and_parts (digit b) (all_digits bs) a in
    let high = digit_high b d.0 in
    let e : 0 * 10 + (b - 48) ≡ b - 48 = omega arith in
    let ge = value_after_ge (0 * 10 + (b - 48)) bs in
    sym (written_some (digits_value (b ∷ bs)) (omega arith)
    ∙ bytes_after (0 * 10 + (b - 48)) bs (omega arith) d.1
    ∙ ap (λ k. digit_bytes k ++ bs) e
    ∙ ap (λ t. t ++ bs) (one_digit b low high))

formed_written : (field : List ℕ) → well_formed field ≡ true → field ≡ written (digits_value field)
formed_written [] f = grind arith
formed_written (b ∷ []) f =
    let low = digit_low b f in
    ⊎_elim (λ e. subst (λ k. k ∷ [] ≡ written (digits_value (k ∷ []))) (sym e) refl) (λ ne. front_written b [] (omega arith) (and_from _ true f refl)) (cases_eq b 48)
formed_written (b ∷ (c ∷ more)) f =
    let p = and_parts (not (eqb b 48)) (all_digits (b ∷ (c ∷ more))) f in
    let low = digit_low b (and_parts (digit b) (all_digits (c ∷ more)) p.1).0 in
    let ne = eqb-false b 48 (not-true _ p.0) in
    front_written b (c ∷ more) (⊎_elim (λ e. absurd (ne e)) (λ n. omega arith) (cases_eq b 48)) p.1

formed_digits : (field : List ℕ) → well_formed field ≡ true → all_digits field ≡ true
formed_digits [] f = refl
formed_digits (b ∷ []) f = and_from _ true f refl
formed_digits (b ∷ (c ∷ more)) f = (and_parts (not (eqb b 48)) (all_digits (b ∷ (c ∷ more))) f).1

-- what a field is, once its tests are known
number_at : (bound : ℕ) (field : List ℕ) (n : ℕ) → number_below bound field ≡ Some n → (well_formed field ≡ true) × (n < bound) × (digits_value field ≡ n)
number_at bound field n e = ⊎_elim
    (λ t.
    let p = and_parts (well_formed field) (ltb (digits_value field) bound) t in
    let v : digits_value field ≡ n = cc (cond-true (well_formed field && ltb (digits_value field) bound) (Some (digits_value field)) None t) in
    (p.0, omega (arith, ltb-true _ _ p.1), v))
    (λ f. let g = cond-false (well_formed field && ltb (digits_value field) bound) (Some (digits_value field)) None f in grind arith)
    (cases_Bool (well_formed field && ltb (digits_value field) bound))

pub number_laws : NumberLaws
number_laws = record {
  reads_back = λ bound n h. ⊎_elim
      (λ e. subst (λ k. number_below bound (written k) ≡ Some k) (sym e) (cond-true _ _ _ (lt-ltb 0 bound (omega arith))))
      (λ ne.
      let some : 0 < n = omega arith in
      let v = bytes_back n in
      ap (number_below bound) (written_some n some)
      ∙ cond-true _ _ _ (and_from _ _ (bytes_formed n some) (lt-ltb _ _ (omega arith)))
      ∙ ap Some v)
      (cases_eq n 0);
  one_numeral = λ bound field n e. let p = number_at bound field n e in formed_written field p.0 ∙ ap written p.2;
  in_bound = λ bound field n e. (number_at bound field n e).1;
}

pub written_digits : (n : ℕ) → all_digits (written n) ≡ true
written_digits n = formed_digits (written n) (number_at (n + 1) (written n) n (number_laws.reads_back (n + 1) n (omega arith))).0
