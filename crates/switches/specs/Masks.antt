-- Masks and states as sets of switches: switch j is in the set where bit j is 1. Assumes nothing.
use Rattle.std.specs.Prelude.{ℕ, zero, suc, ◌+◌, ◌*◌, ◌^◌, Bool, true, cond, not, ◌&&◌, ◌||◌, nat_lt}
use Rattle.look.specs.Bits.{bit_on}

-- f of each number below n
unfoldable pub every : (ℕ → Bool) → ℕ → Bool
every f zero = true
every f (suc n) = f n && every f n

-- all switches of the mask are on at s
abbrev pub all_on : ℕ → ℕ → Bool
all_on mask s = every (λ j. not (bit_on mask j) || bit_on s j) 32

-- all switches of the mask are off at s
abbrev pub all_off : ℕ → ℕ → Bool
all_off mask s = every (λ j. not (bit_on mask j) || not (bit_on s j)) 32

-- the set of the switches j below n where f j
unfoldable pub set_of : (ℕ → Bool) → ℕ → ℕ
set_of f zero = 0
set_of f (suc n) = cond (f 0) 1 0 + 2 * set_of (λ j. f (suc j)) n

-- the mask has no switch from n on
abbrev pub within : ℕ → ℕ → Bool
within n mask = nat_lt mask (2 ^ n)
