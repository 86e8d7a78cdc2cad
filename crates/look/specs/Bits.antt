-- Words as sets of bits. Assumes nothing.
use Rattle.std.specs.Prelude.{ℕ, ◌/◌, ◌%◌, ◌^◌, Bool, ◌==◌}

-- bit j of the word is 1
abbrev pub bit_on : ℕ → ℕ → Bool
bit_on word j = (word / 2 ^ j) % 2 == 1
