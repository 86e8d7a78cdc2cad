-- Numerals from their last digit to their first. Assumes nothing.
use Rattle.std.proofs.Common.{◌≡◌, ℕ, ◌+◌, ◌-◌, ◌/◌, ◌%◌, ◌^◌, ◌<◌, ◌≤◌, List, [], ◌∷◌, ◌++◌, map, length, drop, set, sym, refl, ap, ◌∙◌, subst, ⊎_elim, arith}
use Rattle.std.proofs.lemmas.Int.Digits.{digits_of_step, length-digits_of_step, length-digits_of-le}
use Rattle.std.proofs.lemmas.List.{append_assoc, map-append, drop-set, drop_all, length-set}
use Rattle.std.proofs.lemmas.Bool.{cond-false, ne_eqb, cases_eq}
use Rattle.std.specs.Int.Digits.{digits_of}
use Rattle.text.specs.Numbers.{digit_bytes, written}

bytes_step : (n : ℕ) → 0 < n → digit_bytes n ≡ digit_bytes (n / 10) ++ ((n % 10 + 48) ∷ [])
bytes_step n h = ap (map (λ d. d + 48)) (digits_of_step 10 n (omega arith) h) ∙ map-append (λ d. d + 48) (digits_of 10 (n / 10)) ((n % 10) ∷ [])

written_step : (n : ℕ) → written n ≡ digit_bytes (n / 10) ++ ((n % 10 + 48) ∷ [])
written_step n = ⊎_elim
    (λ e. subst (λ k. written k ≡ digit_bytes (k / 10) ++ ((k % 10 + 48) ∷ [])) (sym e) refl)
    (λ ne. cond-false _ _ _ (ne_eqb n 0 ne) ∙ bytes_step n (omega arith))
    (cases_eq n 0)

-- the numeral of n stands in the digits from `first` on, but for the digits of `rest`, for which there is room
pub record Filling (n : ℕ) (digits : List ℕ) (first rest : ℕ) : Type 0 where
  pub long : length digits ≡ 10
  pub within : first < 10
  pub fits : length (digits_of 10 rest) ≤ first
  pub filled : digit_bytes rest ++ drop first digits ≡ written n

pub filling_first : (n : ℕ) (digits : List ℕ) → n < 2 ^ 32 → length digits ≡ 10 → Filling n (set digits 9 (n % 10 + 48)) 9 (n / 10)
filling_first n digits small long = record {
  long = length-set digits 9 _ ∙ long;
  within = omega arith;
  fits = length-digits_of-le 10 9 (n / 10) (omega arith) (omega arith);
  filled = ap (λ x. digit_bytes (n / 10) ++ x) (drop-set digits 9 (n % 10 + 48) (omega arith) ∙ ap (λ x. (n % 10 + 48) ∷ x) (drop_all 10 digits (omega arith))) ∙ sym (written_step n);
}

module _ (n : ℕ) (digits : List ℕ) (first rest : ℕ) (h : 0 < rest) (f : Filling n digits first rest) where
  pub room_left : 0 < first
  room_left = omega (arith, length-digits_of_step 10 rest (omega arith) h, f.fits)

  pub filling_more : Filling n (set digits (first - 1) (rest % 10 + 48)) (first - 1) (rest / 10)
  filling_more =
      let some = room_left in
      let back : first - 1 + 1 ≡ first = omega arith in
      record {
        long = length-set digits (first - 1) _ ∙ f.long;
        within = omega (arith, f.within);
        fits = omega (arith, length-digits_of_step 10 rest (omega arith) h, f.fits);
        filled = ap (λ x. digit_bytes (rest / 10) ++ x) (drop-set digits (first - 1) (rest % 10 + 48) (omega (arith, f.long, f.within)) ∙ ap (λ k. (rest % 10 + 48) ∷ drop k digits) back)
            ∙ sym (append_assoc (digit_bytes (rest / 10)) ((rest % 10 + 48) ∷ []) (drop first digits))
            ∙ ap (λ x. x ++ drop first digits) (sym (bytes_step rest h))
            ∙ f.filled;
      }
