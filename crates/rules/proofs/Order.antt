-- Rows in order: each row of a rule list names earlier ones, and one row more keeps it so. Assumes nothing.
use Rattle.std.proofs.Common.{◌≡◌, ℕ, zero, suc, ◌+◌, ◌<◌, true, List, [], ◌∷◌, ◌++◌, length, take, set, refl, subst, arith}
use Rattle.std.proofs.lemmas.List.{take_more_set, length-take-le}
use Rattle.std.proofs.lemmas.Bool.{and_parts, and_from}
use Rattle.stl.specs.Rows.{named, ordered, row_at}
use Rattle.stl.specs.declared.row.Row.{Row}

-- a row of the list names earlier ones
pub ordered_at : (i : ℕ) (rows : List Row) (r : ℕ) → r < length rows → ordered i rows ≡ true → named (row_at rows r) (i + r) ≡ true
ordered_at i [] r h o = absurd (omega arith)
ordered_at i (row ∷ rows) zero h o =
    let p = and_parts (named row i) (ordered (i + 1) rows) o in
    let e : i ≡ i + 0 = omega arith in
    subst (λ n. named row n ≡ true) e p.0
ordered_at i (row ∷ rows) (suc r) h o =
    let p = and_parts (named row i) (ordered (i + 1) rows) o in
    let e : i + 1 + r ≡ i + suc r = omega arith in
    subst (λ n. named (row_at rows r) n ≡ true) e (ordered_at (i + 1) rows r (omega arith) p.1)

ordered_push : (i : ℕ) (rows : List Row) (row : Row) (n : ℕ) → i + length rows ≡ n → ordered i rows ≡ true → named row n ≡ true → ordered i (rows ++ (row ∷ [])) ≡ true
ordered_push i [] row n e o h = let q : n ≡ i = omega arith in and_from (named row i) true (subst (λ k. named row k ≡ true) q h) refl
ordered_push i (x ∷ rows) row n e o h =
    let p = and_parts (named x i) (ordered (i + 1) rows) o in
    and_from (named x i) (ordered (i + 1) (rows ++ (row ∷ []))) p.0 (ordered_push (i + 1) rows row n (omega arith) p.1 h)

module _ (rows : List Row) (n : ℕ) (row : Row) (l : n < length rows) (h : named row n ≡ true) where
  -- the array with one row set
  pub ordered_set : ordered 0 (take n rows) ≡ true → ordered 0 (take (n + 1) (set rows n row)) ≡ true
  ordered_set o =
      let w = length-take-le n rows (omega arith) in
      rw (take_more_set rows n row l) (ordered_push 0 (take n rows) row n (omega (arith, w)) o h)
