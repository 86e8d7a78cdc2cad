-- The labels of one row, word by word: the rows that it names stay as they were. Assumes nothing.
use Rattle.std.specs.Prelude.{◌↔◌}
use Rattle.std.proofs.Common.{◌≡◌, ℕ, ◌+◌, ◌<◌, ◌≤◌, Bool, true, cond, not, eqb, ltb, ◌⊎◌, List, length, get_or, set, sym, refl, ap, ◌∙◌, subst, ap₂, inl, inr, ⊎_elim, arith}
use Rattle.std.proofs.lemmas.List.{get_or-set_same, get_or-set_other, length-set}
use Rattle.std.proofs.lemmas.Bool.{cases_eq, and_parts, ltb-true, eq-eqb, ne_eqb, eqb-false, cond-true, cond-false, not-true, not_from_false}
use Rattle.look.specs.Bits.{bit_on}
use Rattle.stl.specs.Rows.{Satisfied, named}
use Rattle.stl.specs.Structures.{Structure, Move, WellFormed}
use Rattle.stl.specs.Until.{Until as Reaching}
use Rattle.stl.specs.declared.row.Row.{Row}
use Rattle.stl.specs.declared.row.Row.TheVariants.{True, Sign, Not, Or, Next, Until}
use Rattle.lengths.specs.Sheets.{label_of, by_sheet, Labelled}
use Rattle.lengths.specs.Tables.{Measured}
use Rattle.lengths.proofs.Entries.{length_small}
use Rattle.marking.specs.Timed.{Timed}

-- two sheets that differ in row r alone say the same of a row that names only rows below r
module _ (k : Structure) (x y : List ℕ) (r : ℕ) (same : (q s : ℕ) → (q ≡ r → ⊥) → label_of x q s ≡ label_of y q s) where
  -- row a is the same
  row_same : (a : ℕ) → ltb a r ≡ true → by_sheet x a ≡ by_sheet y a
  row_same a h = λ i s. same a s (λ e. omega (arith, ltb-true a r h)) i ≡ true

  -- the row is satisfied at the same states
  satisfied_same : (row : Row) (s : ℕ) → named row r ≡ true → Satisfied k (by_sheet x) row s ≡ Satisfied k (by_sheet y) row s
  satisfied_same True s h = refl
  satisfied_same (Sign n) s h = refl
  satisfied_same (Not a) s h = ap (λ P. P s → ⊥) (row_same a h)
  satisfied_same (Or a b) s h = let p = and_parts (ltb a r) (ltb b r) h in ap₂ (λ P Q. P s ⊎ Q s) (row_same a p.0) (row_same b p.1)
  satisfied_same (Next a) s h = ap (λ P. (t : ℕ) × Move k s t × P t) (row_same a h)
  satisfied_same (Until a b) s h = let p = and_parts (ltb a r) (ltb b r) h in ap₂ (λ P Q. Reaching k P Q s) (row_same a p.0) (row_same b p.1)

  -- the table has its lengths by the one as by the other
  pub timed_same : (row : Row) (work : List ℕ) → named row r ≡ true → Timed k x work row ≡ Timed k y work row
  timed_same True work h = refl
  timed_same (Sign n) work h = refl
  timed_same (Not a) work h = refl
  timed_same (Or a b) work h = refl
  timed_same (Next a) work h = refl
  timed_same (Until a b) work h = let p = and_parts (ltb a r) (ltb b r) h in ap₂ (λ P Q. (s : ℕ) → s < k.size → Measured k P Q s (get_or work s 0)) (row_same a p.0) (row_same b p.1)

-- one state more
module _ {k : Structure} {before : List ℕ} {r : ℕ} {row : Row} {n : ℕ} {sheet : List ℕ} (w : ℕ) {b : Bool} (p : Labelled k before r row n sheet) (l : n < length sheet) (h : named row r ≡ true) (is : (b ≡ true) ↔ Satisfied k (by_sheet sheet) row n) (bits : (j : ℕ) → bit_on w j ≡ cond (eqb j r) b (bit_on (get_or sheet n 0) j)) where
  -- the new word stands there
  word : get_or (set sheet n w) n 0 ≡ w
  word = get_or-set_same sheet n w 0 l

  -- the word has bit r as it should be, and each other bit as it was
  bit_here : bit_on w r ≡ b
  bit_here = bits r ∙ cond-true (eqb r r) b (bit_on (get_or sheet n 0) r) (eq-eqb r r refl)

  bit_other : (q : ℕ) → (q ≡ r → ⊥) → bit_on w q ≡ bit_on (get_or sheet n 0) q
  bit_other q ne = bits q ∙ cond-false (eqb q r) b (bit_on (get_or sheet n 0) q) (ne_eqb q r ne)

  -- the labels that the row goes by are those of before
  back : Satisfied k (by_sheet sheet) row n ≡ Satisfied k (by_sheet before) row n
  back = satisfied_same k sheet before r p.other row n h

  -- the label at n is new, the others are old
  new : label_of (set sheet n w) r n ≡ b
  new = ap (λ x. bit_on x r) word ∙ bit_here

  old : (q s : ℕ) → (s ≡ n → ⊥) → label_of (set sheet n w) q s ≡ label_of sheet q s
  old q s ne = ap (λ x. bit_on x q) (get_or-set_other sheet n s w 0 ne)

  -- so row r has its label there too
  pub labelled_more : Labelled k before r row (n + 1) (set sheet n w)
  labelled_more = record {
    sized = length-set sheet n w ∙ p.sized;
    here = λ s m. ⊎_elim
        (λ e. subst (λ t. by_sheet (set sheet n w) r t ↔ Satisfied k (by_sheet before) row t) (sym e)
        ((λ x. subst (λ T. T) back (is.0 (sym new ∙ x))), (λ x. new ∙ is.1 (subst (λ T. T) (sym back) x))))
        (λ ne. let q = p.here s (omega arith) in ((λ x. q.0 (sym (old r s ne) ∙ x)), (λ x. old r s ne ∙ q.1 x)))
        (cases_eq s n);
    other = λ q s ne. ⊎_elim
        (λ e. subst (λ t. label_of (set sheet n w) q t ≡ label_of before q t) (sym e) (ap (λ x. bit_on x q) word ∙ bit_other q ne ∙ p.other q n ne))
        (λ apart. old q s apart ∙ p.other q s ne)
        (cases_eq s n);
    past = λ s m. get_or-set_other sheet n s w 0 (λ e. omega arith) ∙ p.past s (omega arith);
  }

-- an entry that is no 4294967295 says that there is a run
timed_is : (k : Structure) (A B : ℕ → Type 0) → WellFormed k → k.size ≤ 4096 → (s w : ℕ) → s < k.size → Measured k A B s w → (not (eqb w 4294967295) ≡ true) ↔ Reaching k A B s
timed_is k A B formed fits s w h (inl x) = (
  (λ e. absurd (eqb-false w 4294967295 (not-true _ e) x.0)),
  (λ y. absurd (x.1 y.0 y.1)),
)
timed_is k A B formed fits s w h (inr x) = (
  (λ e. (x.0, x.1.reaches)),
  (λ y. not_from_false _ (ne_eqb w 4294967295 (λ e. omega (arith, length_small formed fits h x)))),
)

-- an until is satisfied where the entry is no 4294967295
pub timed_row : (k : Structure) (sheet work : List ℕ) → WellFormed k → k.size ≤ 4096 → (row : Row) (a b : ℕ) → row ≡ Until a b → (s : ℕ) → s < k.size → Timed k sheet work row → (not (eqb (get_or work s 0) 4294967295) ≡ true) ↔ Satisfied k (by_sheet sheet) row s
timed_row k sheet work formed fits row a b e s h t =
    subst (λ w. (not (eqb (get_or work s 0) 4294967295) ≡ true) ↔ Satisfied k (by_sheet sheet) w s) (sym e)
    (timed_is k (by_sheet sheet a) (by_sheet sheet b) formed fits s (get_or work s 0) h (subst (Timed k sheet work) e t s h))
