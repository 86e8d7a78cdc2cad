-- Bytes parted by a byte, one step at a time. Assumes nothing.
use Rattle.std.proofs.Common.{◌≡◌, ℕ, suc, ◌+◌, true, false, cond, not, eqb, ltb, List, [], ◌∷◌, ◌++◌, length, take, drop, Some, None, Option, sym, refl, ap, ◌∙◌, ⊎_elim, arith}
use Rattle.std.proofs.lemmas.Grind.{common_steps}
use Rattle.std.proofs.lemmas.Bool.{cond-true, cond-false, eq-eqb, eqb-true, and_parts, and_from, not-true, not_from_false, cases_Bool}
use Rattle.std.specs.List.{position_or_len}
use Rattle.text.specs.Split.{before, after, onto_first, parts, lacks, SplitLaws}

-- what lies before and after the first place of a byte
pub before_place : (at : ℕ) (xs : List ℕ) → before at xs ≡ take (position_or_len (λ b. eqb b at) xs) xs
before_place at [] = refl
before_place at (b ∷ bs) = elim (eqb b at) as (λ t. cond t [] (b ∷ before at bs) ≡ take (cond (not t) (1 + position_or_len (λ x. eqb x at) bs) 0) (b ∷ bs))
    [ true ↦ refl | false ↦ let p = position_or_len (λ x. eqb x at) bs in let one : suc p ≡ 1 + p = omega arith in ap (λ xs. b ∷ xs) (before_place at bs) ∙ ap (λ n. take n (b ∷ bs)) one ]

pub after_place : (at : ℕ) (xs : List ℕ) → after at xs ≡ cond (ltb (position_or_len (λ b. eqb b at) xs) (length xs)) (Some (drop (position_or_len (λ b. eqb b at) xs + 1) xs)) None
after_place at [] = refl
after_place at (b ∷ bs) = grind (arith, common_steps, after_place at bs)

-- the parts of what comes after a first part
abbrev pub parts_after : ℕ → Option (List ℕ) → List (List ℕ)
parts_after at None = []
parts_after at (Some rest) = parts at rest

-- the first part, and the others
pub parts_first : (at : ℕ) (xs : List ℕ) → parts at xs ≡ before at xs ∷ parts_after at (after at xs)
parts_first at [] = refl
parts_first at (b ∷ bs) = elim (eqb b at) as (λ t. cond t ([] ∷ parts at bs) (onto_first b (parts at bs)) ≡ cond t [] (b ∷ before at bs) ∷ parts_after at (cond t (Some bs) (after at bs))) [ true ↦ refl | false ↦ ap (onto_first b) (parts_first at bs) ]

-- the laws of one split

none_before : (at : ℕ) (bs : List ℕ) → lacks at (before at bs) ≡ true
none_before at [] = refl
none_before at (b ∷ bs) = ⊎_elim
    (λ t. ap (lacks at) (cond-true (eqb b at) [] (b ∷ before at bs) t))
    (λ f. ap (lacks at) (cond-false (eqb b at) [] (b ∷ before at bs) f) ∙ and_from _ _ (not_from_false _ f) (none_before at bs))
    (cases_Bool (eqb b at))

whole : (at : ℕ) (bs : List ℕ) → after at bs ≡ None → before at bs ≡ bs
whole at [] e = refl
whole at (b ∷ bs) e = ⊎_elim
    (λ t. let f = cond-true (eqb b at) (Some bs) (after at bs) t in grind arith)
    (λ f. cond-false (eqb b at) [] (b ∷ before at bs) f ∙ ap (λ xs. b ∷ xs) (whole at bs (sym (cond-false (eqb b at) (Some bs) (after at bs) f) ∙ e)))
    (cases_Bool (eqb b at))

joins : (at : ℕ) (bs rest : List ℕ) → after at bs ≡ Some rest → before at bs ++ (at ∷ rest) ≡ bs
joins at [] rest e = grind arith
joins at (b ∷ bs) rest e = ⊎_elim
    (λ t.
    let r : bs ≡ rest = cc (cond-true (eqb b at) (Some bs) (after at bs) t) in
    let a : b ≡ at = eqb-true b at t in
    ap (λ xs. xs ++ (at ∷ rest)) (cond-true (eqb b at) [] (b ∷ before at bs) t) ∙ cc)
    (λ f. ap (λ xs. xs ++ (at ∷ rest)) (cond-false (eqb b at) [] (b ∷ before at bs) f) ∙ ap (λ xs. b ∷ xs) (joins at bs rest (sym (cond-false (eqb b at) (Some bs) (after at bs) f) ∙ e)))
    (cases_Bool (eqb b at))

pub splits : (at : ℕ) (front rest : List ℕ) → lacks at front ≡ true → (before at (front ++ (at ∷ rest)) ≡ front) × (after at (front ++ (at ∷ rest)) ≡ Some rest)
splits at [] rest l = let t = eq-eqb at at refl in (cond-true (eqb at at) [] (at ∷ before at rest) t, cond-true (eqb at at) (Some rest) (after at rest) t)
splits at (b ∷ bs) rest l =
    let p = and_parts (not (eqb b at)) (lacks at bs) l in
    let f = not-true _ p.0 in
    let s = splits at bs rest p.1 in
    (cond-false (eqb b at) [] (b ∷ before at (bs ++ (at ∷ rest))) f ∙ ap (λ xs. b ∷ xs) s.0, cond-false (eqb b at) (Some (bs ++ (at ∷ rest))) (after at (bs ++ (at ∷ rest))) f ∙ s.1)

-- bytes without a byte `at` are one part
pub lacking : (at : ℕ) (bs : List ℕ) → lacks at bs ≡ true → (before at bs ≡ bs) × (after at bs ≡ None)
lacking at [] l = (refl, refl)
lacking at (b ∷ bs) l =
    let p = and_parts (not (eqb b at)) (lacks at bs) l in
    let f = not-true _ p.0 in
    let s = lacking at bs p.1 in
    (cond-false (eqb b at) [] (b ∷ before at bs) f ∙ ap (λ xs. b ∷ xs) s.0, cond-false (eqb b at) (Some bs) (after at bs) f ∙ s.1)

pub lacks_append : (at : ℕ) (xs ys : List ℕ) → lacks at xs ≡ true → lacks at ys ≡ true → lacks at (xs ++ ys) ≡ true
lacks_append at [] ys k l = l
lacks_append at (x ∷ xs) ys k l = let p = and_parts (not (eqb x at)) (lacks at xs) k in and_from _ _ p.0 (lacks_append at xs ys p.1 l)

pub more_parts : (at : ℕ) (bs rest : List ℕ) → after at bs ≡ Some rest → parts at bs ≡ before at bs ∷ parts at rest
more_parts at bs rest e = parts_first at bs ∙ ap (λ o. before at bs ∷ parts_after at o) e

pub only_part : (at : ℕ) (bs : List ℕ) → after at bs ≡ None → parts at bs ≡ before at bs ∷ []
only_part at bs e = parts_first at bs ∙ ap (λ o. before at bs ∷ parts_after at o) e

pub split_laws : SplitLaws
split_laws = record {
  none_before = none_before;
  whole = whole;
  joins = joins;
  splits = splits;
  one_part = λ at bs e. only_part at bs e ∙ ap (λ xs. xs ∷ []) (whole at bs e);
  more_parts = more_parts;
}
