-- Numbers as a text writes them: plain base ten. Assumes nothing.
use Rattle.std.specs.Prelude.{◌≡◌, ℕ, ◌+◌, ◌-◌, ◌*◌, ◌^◌, ◌<◌, Bool, true, false, cond, not, ◌&&◌, List, [], ◌∷◌, map, Some, None, Option, ◌==◌, nat_le, nat_lt}
use Rattle.std.specs.Int.Digits.{digits_of}

-- a byte is a digit: 48 to 57
abbrev pub digit : ℕ → Bool
digit b = nat_le 48 b && nat_le b 57

-- every byte is a digit
abbrev pub all_digits : List ℕ → Bool
all_digits [] = true
all_digits (b ∷ bs) = digit b && all_digits bs

-- the number n with digits written after it
abbrev pub value_after : ℕ → List ℕ → ℕ
value_after n [] = n
value_after n (b ∷ bs) = value_after (n * 10 + (b - 48)) bs

-- the base-ten value of digits
abbrev pub digits_value : List ℕ → ℕ
digits_value bs = value_after 0 bs

-- at least one digit, nothing but digits, and no leading zero but in `0` itself
abbrev pub well_formed : List ℕ → Bool
well_formed [] = false
well_formed (b ∷ []) = digit b
well_formed (b ∷ (c ∷ more)) = not (b == 48) && all_digits (b ∷ (c ∷ more))

-- the number that a field is, where it is well formed and below the bound
abbrev pub number_below : ℕ → List ℕ → Option ℕ
number_below bound field = cond (well_formed field && nat_lt (digits_value field) bound) (Some (digits_value field)) None

-- the number that a field is: below 4,294,967,296
abbrev pub number_of : List ℕ → Option ℕ
number_of field = number_below (2 ^ 32) field

-- the digits of n as bytes, the highest first, and none for 0
abbrev pub digit_bytes : ℕ → List ℕ
digit_bytes n = map (λ d. d + 48) (digits_of 10 n)

-- the numeral of n
abbrev pub written : ℕ → List ℕ
written n = cond (n == 0) (48 ∷ []) (digit_bytes n)

-- numbers and numerals are one to one
pub record NumberLaws : Type 0 where
  -- the numeral of a number reads back as that number
  pub reads_back : (bound n : ℕ) → n < bound → number_below bound (written n) ≡ Some n
  -- a field that is a number is its numeral, so a number has one numeral
  pub one_numeral : (bound : ℕ) (field : List ℕ) (n : ℕ) → number_below bound field ≡ Some n → field ≡ written n
  -- a number that is read keeps to its bound
  pub in_bound : (bound : ℕ) (field : List ℕ) (n : ℕ) → number_below bound field ≡ Some n → n < bound
