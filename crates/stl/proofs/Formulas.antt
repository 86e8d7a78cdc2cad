-- The formula of a row is built from those of the rows that it names, and stays as rows are added. Assumes nothing.
use Rattle.std.proofs.Common.{◌≡◌, ℕ, zero, suc, ◌+◌, ◌<◌, true, ltb, List, [], ◌∷◌, ◌++◌, length, get_or, sym, refl, ap, ◌∙◌, ap₂, not-suc-le-zero, arith, length-append}
use lib.ListN.{get_or-append}
use lib.Seq.{get_or_at}
use Rattle.std.proofs.lemmas.Bool.{ltb-true, and_parts}
use Rattle.stl.specs.Formulas.{Formula, top, neg, or, next, until, build, grow, formulas}
use Rattle.stl.specs.Rows.{named}
use Rattle.stl.specs.declared.row.Row.{Row}
use Rattle.stl.specs.declared.row.Row.TheVariants.{True, Sign, Not, Or, Next, Until}

-- one row after others
grow_append : (above : List Formula) (xs ys : List Row) → grow above (xs ++ ys) ≡ grow (grow above xs) ys
grow_append above [] ys = refl
grow_append above (x ∷ xs) ys = grow_append (above ++ (build above x ∷ [])) xs ys

-- a formula for each row
length_grow : (above : List Formula) (rows : List Row) → length (grow above rows) ≡ length above + length rows
length_grow above [] = omega arith
length_grow above (row ∷ rows) =
    let before = above ++ (build above row ∷ []) in
    omega (arith, length_grow before rows, length-append above (build above row ∷ []))

-- a formula once there stays
grow_keeps : (above : List Formula) (rows : List Row) (i : ℕ) → i < length above → get_or (grow above rows) i top ≡ get_or above i top
grow_keeps above [] i h = refl
grow_keeps above (row ∷ rows) i h =
    let last = build above row ∷ [] in
    grow_keeps (above ++ last) rows i (omega (arith, length-append above last)) ∙ get_or-append above last top i h

-- only the rows named matter to a row's formula
build_same : (xs ys : List Formula) (row : Row) (n : ℕ) → ((i : ℕ) → i < n → get_or xs i top ≡ get_or ys i top) → named row n ≡ true → build xs row ≡ build ys row
build_same xs ys True n f h = refl
build_same xs ys (Sign k) n f h = refl
build_same xs ys (Not a) n f h = ap neg (f a (ltb-true a n h))
build_same xs ys (Or a b) n f h = let p = and_parts (ltb a n) (ltb b n) h in ap₂ or (f a (ltb-true a n p.0)) (f b (ltb-true b n p.1))
build_same xs ys (Next a) n f h = ap next (f a (ltb-true a n h))
build_same xs ys (Until a b) n f h = let p = and_parts (ltb a n) (ltb b n) h in ap₂ until (f a (ltb-true a n p.0)) (f b (ltb-true b n p.1))

-- the formula at j, that of row i of those to come
grow_at : (above : List Formula) (rows : List Row) (i j : ℕ) → j ≡ length above + i → i < length rows → named (get_or rows i True) j ≡ true → get_or (grow above rows) j top ≡ build (grow above rows) (get_or rows i True)
grow_at above [] i j e h n = absurd (not-suc-le-zero h)
grow_at above (row ∷ rows) zero j e h n =
    let last = build above row ∷ [] in
    grow_keeps (above ++ last) rows j (omega (arith, length-append above last))
    ∙ get_or_at above (build above row) [] top j (omega arith)
    ∙ build_same above (grow (above ++ last) rows) row j (λ i k. sym (grow_keeps above (row ∷ rows) i (omega arith))) n
grow_at above (row ∷ rows) (suc i) j e h n =
    let last = build above row ∷ [] in
    grow_at (above ++ last) rows i j (omega (arith, length-append above last)) (omega arith) n

-- the formula of row i is built from those of the rows before it
pub formula_at : (rows : List Row) (i : ℕ) → i < length rows → named (get_or rows i True) i ≡ true → get_or (formulas rows) i top ≡ build (formulas rows) (get_or rows i True)
formula_at rows i h n = grow_at [] rows i i (omega arith) h n

-- a row added changes no formula of those before
pub formula_stays : (rows more : List Row) (i : ℕ) → i < length rows → get_or (formulas (rows ++ more)) i top ≡ get_or (formulas rows) i top
formula_stays rows more i h =
    ap (λ fs. get_or fs i top) (grow_append [] rows more) ∙ grow_keeps (formulas rows) more i (omega (arith, length_grow [] rows))
