-- What the code does with words, by sets. Assumes nothing.
use Rattle.std.proofs.Common.{◌≡◌, ℕ, ◌-◌, ◌^◌, ◌<◌, Bool, true, false, not, ◌&&◌, ◌||◌, eqb, Decides, sym, refl, ap, ◌∙◌, ⊎_elim, arith}
use lib.Bits.{bit_and, bit_or}
use Rattle.std.proofs.lemmas.Nat.{and_le_l, or_lt}
use Rattle.std.proofs.lemmas.Bool.{cases_lt}
use Rattle.std.proofs.lemmas.Bool.Decides.{same_from_decides, Decides-eqb, Decides-like, Decides-below_and}
use Rattle.look.specs.Bits.{bit_on}
use Rattle.switches.specs.Masks.{every, all_on, all_off, set_of}
use Rattle.look.proofs.Bits.{bit_on-and, bit_on-or, bit_on-not, same_word, none_of_zero, none_high}
use Rattle.switches.proofs.Words.{is_set}

pub every_decides : (f : ℕ → Bool) (n : ℕ) → Decides (every f n) ((j : ℕ) → j < n → f j ≡ true)
unfolding every
every_decides f n = Decides-below_and f (λ j. f j ≡ true) (every f) (λ j. (λ e. e, λ e. e)) refl (λ _. refl) n

-- the bits of a mask that are on in s are all its bits exactly when each of its switches is on
pub on_test : (mask s : ℕ) → mask < 2 ^ 32 → eqb (bit_and s mask) mask ≡ all_on mask s
on_test mask s h =
    same_from_decides _ _ (Decides-eqb (bit_and s mask) mask)
    (Decides-like (all_on mask s)
    (λ all. same_word _ _ (λ j. bit_on-and s mask j ∙ ⊎_elim (λ l. covered (bit_on mask j) (bit_on s j) (all j l)) (λ l. absent (bit_on mask j) (bit_on s j) (none_high 32 mask j h l)) (cases_lt j 32)))
    (λ e j l. covers (bit_on mask j) (bit_on s j) (sym (bit_on-and s mask j) ∙ ap (λ w. bit_on w j) e))
    (every_decides (λ j. not (bit_on mask j) || bit_on s j) 32))
  where
    covered : (m x : Bool) → (not m || x) ≡ true → (x && m) ≡ m
    covered true true e = refl
    covered true false e = e
    covered false true e = refl
    covered false false e = refl

    absent : (m x : Bool) → m ≡ false → (x && m) ≡ m
    absent true true e = refl
    absent true false e = sym e
    absent false true e = refl
    absent false false e = refl

    covers : (m x : Bool) → (x && m) ≡ m → (not m || x) ≡ true
    covers true true e = refl
    covers true false e = e
    covers false true e = refl
    covers false false e = refl

-- no bit of a mask is on in s exactly when each of its switches is off
pub off_test : (mask s : ℕ) → mask < 2 ^ 32 → eqb (bit_and s mask) 0 ≡ all_off mask s
off_test mask s h =
    same_from_decides _ _ (Decides-eqb (bit_and s mask) 0)
    (Decides-like (all_off mask s)
    (λ all. same_word _ _ (λ j. bit_on-and s mask j ∙ ⊎_elim (λ l. cleared (bit_on mask j) (bit_on s j) (all j l)) (λ l. absent (bit_on mask j) (bit_on s j) (none_high 32 mask j h l)) (cases_lt j 32) ∙ sym (none_of_zero j)))
    (λ e j l. clears (bit_on mask j) (bit_on s j) (sym (bit_on-and s mask j) ∙ ap (λ w. bit_on w j) e ∙ none_of_zero j))
    (every_decides (λ j. not (bit_on mask j) || not (bit_on s j)) 32))
  where
    cleared : (m x : Bool) → (not m || not x) ≡ true → (x && m) ≡ false
    cleared true true e = sym e
    cleared true false e = refl
    cleared false true e = refl
    cleared false false e = refl

    absent : (m x : Bool) → m ≡ false → (x && m) ≡ false
    absent true true e = e
    absent true false e = refl
    absent false true e = refl
    absent false false e = refl

    clears : (m x : Bool) → (x && m) ≡ false → (not m || not x) ≡ true
    clears true true e = sym e
    clears true false e = refl
    clears false true e = refl
    clears false false e = refl

-- the switches of s without those of off, and those of on
pub turned : (s on off : ℕ) → s < 2 ^ 32 → on < 2 ^ 32 → off < 2 ^ 32 → bit_or (bit_and s (2 ^ 32 - 1 - off)) on ≡ set_of (λ j. (bit_on s j && not (bit_on off j)) || bit_on on j) 32
turned s on off hs hon hoff =
    is_set _ 32 _ (or_lt 32 (bit_and s (2 ^ 32 - 1 - off)) on (omega (arith, and_le_l s (2 ^ 32 - 1 - off))) hon)
    (λ j l. bit_on-or (bit_and s (2 ^ 32 - 1 - off)) on j ∙ ap (λ b. b || bit_on on j) (bit_on-and s (2 ^ 32 - 1 - off) j ∙ ap (λ b. bit_on s j && b) (bit_on-not 32 off j hoff l)))

-- the switches of both
pub common : (a b : ℕ) → a < 2 ^ 32 → bit_and a b ≡ set_of (λ j. bit_on a j && bit_on b j) 32
common a b h = is_set _ 32 _ (omega (arith, and_le_l a b)) (λ j l. bit_on-and a b j)
