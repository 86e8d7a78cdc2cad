-- The joint look: the signs of two looks in turn. Assumes nothing.
use Rattle.std.specs.Prelude.{ℕ, ◌/◌, ◌%◌, Bool, cond, ◌&&◌, ◌==◌}

-- sign 2 × k is the left look's sign k, and sign 2 × k + 1 the right look's
abbrev pub joint_sign : (ℕ → Bool) → (ℕ → Bool) → ℕ → Bool
joint_sign left right k = cond (k % 2 == 0) (left (k / 2)) (right (k / 2))

-- the same when both halves are
abbrev pub joint_same : Bool → Bool → Bool
joint_same left right = left && right
