-- One bit of a word: read, kept, turned. Assumes nothing.
use Rattle.std.proofs.Common.{◌≡◌, ℕ, zero, suc, ◌≤◌, ◌/◌, ◌%◌, ◌^◌, Bool, true, false, List, length, cond, not, eqb, sym, refl, ap, ◌∙◌, ⊎_elim, arith}
use mathlib.Core.Bool.{beq}
use Prim.Native.Nat.compare
use native.Mathlib.Nat.{pow-succ'}
use lib.Bits.{bit_and, bit_xor}
use lib.Dec.{compare_is_eq}
use Rattle.std.proofs.lemmas.Nat.{and_mask}
use Rattle.std.proofs.lemmas.List.{get_or_past}
use Rattle.std.proofs.lemmas.Bool.{eq-eqb, ne_eqb, cond-true, cond-false, cases_eq, true≢false}
use Rattle.look.specs.Bits.{bit_on}
use Rattle.look.proofs.Bits.{bit_on-xor, half, lowest, none_of_zero}
use Rattle.lengths.specs.Sheets.{by_sheet}

-- 2 to the r has bit r alone
one_bit : (r j : ℕ) → bit_on (2 ^ r) j ≡ eqb j r
one_bit zero zero = refl
one_bit zero (suc j) = sym (half 1 j) ∙ none_of_zero j ∙ sym (ne_eqb (suc j) 0 (λ e. omega arith))
one_bit (suc r) zero = let even : 2 ^ suc r % 2 ≡ 0 = omega (arith, pow-succ' 2 r) in lowest (2 ^ suc r) ∙ ap (λ n. eqb n 1) even ∙ sym (ne_eqb 0 (suc r) (λ e. omega arith))
one_bit (suc r) (suc j) = let less : 2 ^ suc r / 2 ≡ 2 ^ r = omega (arith, pow-succ' 2 r) in sym (half (2 ^ suc r) j) ∙ ap (λ w. bit_on w j) less ∙ one_bit r j ∙ ap compare_is_eq (sym (compare.suc-suc j r))

module _ (w r : ℕ) (b : Bool) where
  -- a word whose bit r is turned to b
  pub turned_bit : not (bit_on w r) ≡ b → (j : ℕ) → bit_on (bit_xor w (2 ^ r)) j ≡ cond (eqb j r) b (bit_on w j)
  turned_bit e j =
      bit_on-xor w (2 ^ r) j ∙ ap (λ c. cond c (not (bit_on w j)) (bit_on w j)) (one_bit r j) ∙ ⊎_elim
      (λ q. cond-true (eqb j r) (not (bit_on w j)) (bit_on w j) (eq-eqb j r q) ∙ ap (λ i. not (bit_on w i)) q ∙ e ∙ sym (cond-true (eqb j r) b (bit_on w j) (eq-eqb j r q)))
      (λ ne. cond-false (eqb j r) (not (bit_on w j)) (bit_on w j) (ne_eqb j r ne) ∙ sym (cond-false (eqb j r) b (bit_on w j) (ne_eqb j r ne)))
      (cases_eq j r)

-- two bits that are not
pub beq_false : (a b : Bool) → beq a b ≡ false → not a ≡ b
beq_false true true e = sym e
beq_false true false e = refl
beq_false false true e = refl
beq_false false false e = e

-- a state without a word has no label
pub no_word : (sheet : List ℕ) (r s : ℕ) → length sheet ≤ s → by_sheet sheet r s → ⊥
no_word sheet r s h on = true≢false (sym on ∙ ap (λ word. bit_on word r) (get_or_past sheet s 0 h) ∙ none_of_zero r)
