-- Sets of switches by their bits. Assumes nothing.
use Rattle.std.proofs.Common.{◌≡◌, ℕ, zero, suc, ◌+◌, ◌*◌, ◌/◌, ◌%◌, ◌^◌, ◌<◌, ◌≤◌, Bool, true, false, cond, eqb, sym, ap, ◌∙◌, ⊎_elim, arith}
use Rattle.std.proofs.lemmas.Bool.{cases_lt}
use Rattle.look.specs.Bits.{bit_on}
use Rattle.look.proofs.Bits.{half, lowest, none_of_zero, none_high, same_word}
use Rattle.switches.specs.Masks.{set_of}

set_lowest : (b : Bool) (rest : ℕ) → eqb ((cond b 1 0 + 2 * rest) % 2) 1 ≡ b
set_lowest true rest = let e : (1 + 2 * rest) % 2 ≡ 1 = omega arith in ap (λ m. eqb m 1) e
set_lowest false rest = let e : (0 + 2 * rest) % 2 ≡ 0 = omega arith in ap (λ m. eqb m 1) e

set_half : (b : Bool) (rest : ℕ) → (cond b 1 0 + 2 * rest) / 2 ≡ rest
set_half true rest = omega arith
set_half false rest = omega arith

pub set_bit_on : (f : ℕ → Bool) (n j : ℕ) → j < n → bit_on (set_of f n) j ≡ f j
unfolding set_of
set_bit_on f zero j h = absurd (omega arith)
set_bit_on f (suc n) zero h = lowest _ ∙ set_lowest (f 0) (set_of (λ j. f (suc j)) n)
set_bit_on f (suc n) (suc j) h =
    sym (half (set_of f (suc n)) j) ∙ ap (λ w. bit_on w j) (set_half (f 0) (set_of (λ i. f (suc i)) n)) ∙ set_bit_on (λ i. f (suc i)) n j (omega arith)

pub set_past : (f : ℕ → Bool) (n j : ℕ) → n ≤ j → bit_on (set_of f n) j ≡ false
unfolding set_of
set_past f zero j h = none_of_zero j
set_past f (suc n) zero h = absurd (omega arith)
set_past f (suc n) (suc j) h =
    sym (half (set_of f (suc n)) j) ∙ ap (λ w. bit_on w j) (set_half (f 0) (set_of (λ i. f (suc i)) n)) ∙ set_past (λ i. f (suc i)) n j (omega arith)

-- a word of n bits is the set of its switches
pub is_set : (f : ℕ → Bool) (n w : ℕ) → w < 2 ^ n → ((j : ℕ) → j < n → bit_on w j ≡ f j) → w ≡ set_of f n
is_set f n w h e =
    same_word w (set_of f n) (λ j. ⊎_elim (λ l. e j l ∙ sym (set_bit_on f n j l)) (λ l. none_high n w j h l ∙ sym (set_past f n j l)) (cases_lt j n))
