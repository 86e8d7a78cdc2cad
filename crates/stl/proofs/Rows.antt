-- What rows name, and the reach of a row. Assumes nothing.
use Rattle.std.proofs.Common.{◌≡◌, ℕ, ◌<◌, ◌≤◌, true, false, ltb, refl, subst, arith}
use Rattle.std.proofs.lemmas.Bool.{and_parts, and_from, ltb-true, lt-ltb}
use Rattle.stl.specs.Rows.{named, is_until, Reach}
use Rattle.stl.specs.Structures.{Structure, WellFormed}
use Rattle.stl.specs.declared.row.Row.{Row}
use Rattle.stl.specs.declared.row.Row.TheVariants.{True, Sign, Not, Or, Next, Until}
use Rattle.stl.proofs.Shortest.{greatest_below}

lower : (a m n : ℕ) → m ≤ n → ltb a m ≡ true → ltb a n ≡ true
lower a m n h e = lt-ltb a n (omega (arith, ltb-true a m e))

-- a row that names only rows below m names only rows below n
pub named_more : (row : Row) (m n : ℕ) → m ≤ n → named row m ≡ true → named row n ≡ true
named_more True m n h e = refl
named_more (Sign k) m n h e = refl
named_more (Not a) m n h e = lower a m n h e
named_more (Or a b) m n h e = let p = and_parts (ltb a m) (ltb b m) e in and_from _ _ (lower a m n h p.0) (lower b m n h p.1)
named_more (Next a) m n h e = lower a m n h e
named_more (Until a b) m n h e = let p = and_parts (ltb a m) (ltb b m) e in and_from _ _ (lower a m n h p.0) (lower b m n h p.1)

-- what an until names
pub until_below : {row : Row} {a b n : ℕ} → row ≡ Until a b → named row n ≡ true → (a < n) × (b < n)
until_below {a = a} {b = b} {n = n} e h =
    let p = and_parts (ltb a n) (ltb b n) (subst (λ x. named x n ≡ true) e h) in
    (ltb-true a n p.0, ltb-true b n p.1)

-- a row that is no until
pub not_until : (row : Row) → ((a b : ℕ) → row ≡ Until a b → ⊥) → is_until row ≡ false
not_until True h = refl
not_until (Sign n) h = refl
not_until (Not a) h = refl
not_until (Or a b) h = refl
not_until (Next a) h = refl
not_until (Until a b) h = absurd (h a b refl)

-- a reach is below the number of states
pub reach_below : (k : Structure) (V : ℕ → ℕ → Type 0) → WellFormed k → (row : Row) (n : ℕ) → Reach k V row n → 0 < k.size → n < k.size
reach_below k V formed True n p z = omega arith
reach_below k V formed (Sign m) n p z = omega arith
reach_below k V formed (Not a) n p z = omega arith
reach_below k V formed (Or a b) n p z = omega arith
reach_below k V formed (Next a) n p z = omega arith
reach_below k V formed (Until a b) n p z = greatest_below k (V a) (V b) formed n p z
