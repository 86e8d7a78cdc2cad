-- The switch look: 32 marks in one word. Assumes nothing.
use Rattle.std.specs.Prelude.{ℕ, Bool, ◌&&◌, ◌==◌, nat_lt}
use Rattle.look.specs.Bits.{bit_on}

-- sign k, below 32, is on when bit k of the word is 1
abbrev pub switch_sign : ℕ → ℕ → Bool
switch_sign marks k = nat_lt k 32 && bit_on marks k

-- the same when all marks are equal
abbrev pub switch_same : ℕ → ℕ → Bool
switch_same a b = a == b
