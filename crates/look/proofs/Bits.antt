-- The bits of a word, and the word of its bits. Assumes nothing.
use Rattle.std.proofs.Common.{◌≡◌, ℕ, zero, suc, ◌+◌, ◌-◌, ◌*◌, ◌/◌, ◌%◌, ◌^◌, ◌<◌, ◌≤◌, Bool, true, false, cond, not, ◌&&◌, ◌||◌, eqb, ltb, ◌⊎◌, sym, refl, ap, ◌∙◌, subst, inl, inr, ⊎_elim, Option, Some, None, mod-eq_of_lt, div-one, arith, pow_mono}
use native.Mathlib.Nat.{zero-div, div-eq_of_lt, div-div-eq-div-mul, pow-succ'}
use lib.Bits.{bit_and, bit_or, bit_xor, xor_add_and}
use Rattle.std.specs.Prelude.{SomeIff, unwrap_or}
use Rattle.std.specs.Int.Bits.{and_zero_r}
use Rattle.std.proofs.lemmas.Nat.{and_mask, and_shr, and_mod, or_shr, or_mod, xor_shr, xor_mod, mod_below, one_shl, pow_pos}
use Rattle.std.proofs.lemmas.Nat.Bits.{and_pow}
use Rattle.std.proofs.lemmas.Bool.{cases_lt, lt-ltb, le-ltb, ne_eqb, eqb-true, eqb-false, cond-true}
use Rattle.look.specs.Bits.{bit_on}

-- bit j of a word
abbrev pub bit : ℕ → ℕ → ℕ
bit w j = (w / 2 ^ j) % 2

bit_is : (w j : ℕ) → (bit w j ≡ 0) ⊎ (bit w j ≡ 1)
bit_is w j =
    let h = mod_below (w / 2 ^ j) 2 (omega arith) in
    ⊎_elim (λ l. inl (omega arith)) (λ l. inr (omega (arith, h))) (cases_lt (bit w j) 1)

-- what holds at both values of two bits holds of them
by_bits : (P : ℕ → ℕ → Type 0) → P 0 0 → P 0 1 → P 1 0 → P 1 1 → (a b j : ℕ) → P (bit a j) (bit b j)
by_bits P oo ol lo ll a b j =
    ⊎_elim
    (λ x. ⊎_elim (λ y. subst (P (bit a j)) (sym y) (subst (λ n. P n 0) (sym x) oo)) (λ y. subst (P (bit a j)) (sym y) (subst (λ n. P n 1) (sym x) ol)) (bit_is b j))
    (λ x. ⊎_elim (λ y. subst (P (bit a j)) (sym y) (subst (λ n. P n 0) (sym x) lo)) (λ y. subst (P (bit a j)) (sym y) (subst (λ n. P n 1) (sym x) ll)) (bit_is b j))
    (bit_is a j)

pub bit_on-and : (a b j : ℕ) → bit_on (bit_and a b) j ≡ (bit_on a j && bit_on b j)
bit_on-and a b j =
    ap (λ n. eqb n 1) (ap (λ n. n % 2) (and_shr a b j) ∙ and_mod (a / 2 ^ j) (b / 2 ^ j) 1) ∙ by_bits (λ x y. eqb (bit_and x y) 1 ≡ (eqb x 1 && eqb y 1)) refl refl refl refl a b j

pub bit_on-or : (a b j : ℕ) → bit_on (bit_or a b) j ≡ (bit_on a j || bit_on b j)
bit_on-or a b j =
    ap (λ n. eqb n 1) (ap (λ n. n % 2) (or_shr a b j) ∙ or_mod (a / 2 ^ j) (b / 2 ^ j) 1) ∙ by_bits (λ x y. eqb (bit_or x y) 1 ≡ (eqb x 1 || eqb y 1)) refl refl refl refl a b j

-- one bit is turned where the other is 1
pub bit_on-xor : (a b j : ℕ) → bit_on (bit_xor a b) j ≡ cond (bit_on b j) (not (bit_on a j)) (bit_on a j)
bit_on-xor a b j =
    ap (λ n. eqb n 1) (ap (λ n. n % 2) (xor_shr a b j) ∙ xor_mod (a / 2 ^ j) (b / 2 ^ j) 1) ∙ by_bits (λ x y. eqb (bit_xor x y) 1 ≡ cond (eqb y 1) (not (eqb x 1)) (eqb x 1)) refl refl refl refl a b j

-- the bits of the half are those one up
pub half : (w j : ℕ) → bit_on (w / 2) j ≡ bit_on w (suc j)
half w j = ap (λ n. eqb (n % 2) 1) (div-div-eq-div-mul w 2 (2 ^ j) ∙ ap (λ n. w / n) (sym (pow-succ' 2 j)))

pub lowest : (w : ℕ) → bit_on w 0 ≡ eqb (w % 2) 1
lowest w = ap (λ n. eqb (n % 2) 1) (div-one w)

-- all bits below n are on in 2 to the n less 1
all_below : (n j : ℕ) → j < n → bit_on (2 ^ n - 1) j ≡ true
all_below zero j h = absurd (omega arith)
all_below (suc n) zero h =
    let odd : (2 ^ suc n - 1) % 2 ≡ 1 = omega (arith, pow-succ' 2 n, pow_pos n) in
    lowest (2 ^ suc n - 1) ∙ ap (λ m. eqb m 1) odd
all_below (suc n) (suc j) h =
    let less : (2 ^ suc n - 1) / 2 ≡ 2 ^ n - 1 = omega (arith, pow-succ' 2 n, pow_pos n) in
    sym (half (2 ^ suc n - 1) j) ∙ ap (λ w. bit_on w j) less ∙ all_below n j (omega arith)

-- the other bits below n
pub bit_on-not : (n a j : ℕ) → a < 2 ^ n → j < n → bit_on (2 ^ n - 1 - a) j ≡ not (bit_on a j)
bit_on-not n a j h l =
    let turned : bit_xor a (2 ^ n - 1) ≡ 2 ^ n - 1 - a = omega (arith, xor_add_and a (2 ^ n - 1), and_mask a n, mod-eq_of_lt h) in
    ap (λ w. bit_on w j) (sym turned) ∙ bit_on-xor a (2 ^ n - 1) j ∙ cond-true (bit_on (2 ^ n - 1) j) (not (bit_on a j)) (bit_on a j) (all_below n j l)

lowest_same : (a b : ℕ) → bit_on a 0 ≡ bit_on b 0 → a % 2 ≡ b % 2
lowest_same a b e = by_tests (eqb (a % 2) 1) (eqb (b % 2) 1) refl refl (sym (lowest a) ∙ e ∙ lowest b)
  where
    by_tests : (x y : Bool) → eqb (a % 2) 1 ≡ x → eqb (b % 2) 1 ≡ y → x ≡ y → a % 2 ≡ b % 2
    by_tests true true p q h = omega (arith, eqb-true (a % 2) 1 p, eqb-true (b % 2) 1 q)
    by_tests true false p q h = let z : ◌≡◌ {A = ℕ} 0 1 = cc in absurd (omega arith)
    by_tests false true p q h = let z : ◌≡◌ {A = ℕ} 0 1 = cc in absurd (omega arith)
    by_tests false false p q h = omega (arith, eqb-false (a % 2) 1 p, eqb-false (b % 2) 1 q)

same_below : (n a b : ℕ) → a ≤ n → b ≤ n → ((j : ℕ) → bit_on a j ≡ bit_on b j) → a ≡ b
same_below zero a b h k f = omega arith
same_below (suc n) a b h k f =
    let high : a / 2 ≡ b / 2 = same_below n (a / 2) (b / 2) (omega arith) (omega arith) (λ j. half a j ∙ f (suc j) ∙ sym (half b j)) in
    let low : a % 2 ≡ b % 2 = lowest_same a b (f 0) in
    omega arith

-- words with the same bits are equal
pub same_word : (a b : ℕ) → ((j : ℕ) → bit_on a j ≡ bit_on b j) → a ≡ b
same_word a b f = same_below (a + b) a b (omega arith) (omega arith) f

pub none_of_zero : (j : ℕ) → bit_on 0 j ≡ false
none_of_zero j = ap (λ n. eqb (n % 2) 1) (zero-div (2 ^ j))

-- no bit from n on is on below 2 to the n
pub none_high : (n word j : ℕ) → word < 2 ^ n → n ≤ j → bit_on word j ≡ false
none_high n word j h l = ap (λ q. eqb (q % 2) 1) (div-eq_of_lt (omega (arith, pow_mono {i = n} {j = j} l)))

-- a word below 2 ^ n has its bits below n
pub bit_within : (n word j : ℕ) → word < 2 ^ n → bit_on word j ≡ (ltb j n && bit_on word j)
bit_within n word j h =
    ⊎_elim
    (λ l. sym (ap (λ b. b && bit_on word j) (lt-ltb j n l)))
    (λ l. none_high n word j h l ∙ sym (ap (λ b. b && bit_on word j) (le-ltb j n l)))
    (cases_lt j n)

-- a word masked by bit j alone is 0 where that bit is off
masked : (word j : ℕ) → not (eqb (bit_and word (2 ^ j)) 0) ≡ bit_on word j
masked word j =
    ap (λ n. not (eqb n 0)) (and_pow word j) ∙ ⊎_elim
    (λ off. let none : bit word j * 2 ^ j ≡ 0 = ap (λ b. b * 2 ^ j) off ∙ omega arith in ap (λ n. not (eqb n 0)) none ∙ sym (ap (λ b. eqb b 1) off))
    (λ on. ap (λ b. not (eqb (b * 2 ^ j) 0)) on ∙ ap not (ne_eqb (1 * 2 ^ j) 0 (λ e. omega (arith, pow_pos j))) ∙ sym (ap (λ b. eqb b 1) on))
    (bit_is word j)

-- the mask of a bit, 0 where the word has no such bit
pub masked_within : (word j : ℕ) (mask : Option ℕ) → word < 2 ^ 64 → SomeIff mask (j < 64) ((1 * 2 ^ j) % 2 ^ 64) → not (eqb (bit_and word (unwrap_or mask 0)) 0) ≡ bit_on word j
masked_within word j None h out = ap (λ n. not (eqb n 0)) (and_zero_r word) ∙ sym (none_high 64 word j h (omega (arith, out)))
masked_within word j (Some m) h is = ap (λ n. not (eqb (bit_and word n) 0)) (is.1 ∙ one_shl j 64 is.0) ∙ masked word j
