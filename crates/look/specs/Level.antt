-- The level look: a level from 0 to 255, in steps of 16. Assumes nothing.
use Rattle.std.specs.Prelude.{ℕ, ◌*◌, ◌/◌, Bool, ◌&&◌, ◌==◌, nat_le, nat_lt}

-- sign k, from 0 to 15, is on when the level is at least 16 × k
abbrev pub level_sign : ℕ → ℕ → Bool
level_sign level k = nat_lt k 16 && nat_le (16 * k) level

-- the same when the levels lie in the same step of 16
abbrev pub level_same : ℕ → ℕ → Bool
level_same a b = a / 16 == b / 16
