-- How large a set of switches is as a number. These facts stand beside the definitions since each switch map carries
-- them. Assumes nothing.
use Rattle.std.specs.Prelude.{◌≡◌, ℕ, zero, suc, ◌^◌, ◌<◌, ◌≤◌, Bool, true, false, cond}
use Rattle.std.proofs.Math.Nat.{pow-succ'}
use Rattle.std.proofs.Common.{arith}
use Rattle.std.proofs.lemmas.Nat.{pow_pos}
use Rattle.std.proofs.lemmas.Bool.{cond-false}
use Rattle.switches.specs.Masks.{set_of}

bit_le : (b : Bool) → cond b 1 0 ≤ 1
bit_le true = omega arith
bit_le false = omega arith

-- a set without a switch from b on is below 2 to the b
pub set_below : (f : ℕ → Bool) (n b : ℕ) → ((j : ℕ) → b ≤ j → j < n → f j ≡ false) → set_of f n < 2 ^ b
unfolding set_of
set_below f zero b h = pow_pos b
set_below f (suc n) zero h =
    let rest = set_below (λ j. f (suc j)) n zero (λ j l k. h (suc j) (omega arith) (omega arith)) in
    let none : cond {A = ℕ} (f 0) 1 0 ≡ 0 = cond-false (f 0) 1 0 (h 0 (omega arith) (omega arith)) in
    omega arith
set_below f (suc n) (suc b) h =
    let rest = set_below (λ j. f (suc j)) n b (λ j l k. h (suc j) (omega arith) (omega arith)) in
    omega (arith, bit_le (f 0), pow-succ' 2 b)
