-- What a session and its sheet keep to, from call to call. Assumes nothing.
use Rattle.std.specs.Prelude.{◌↔◌}
use Rattle.std.proofs.Common.{◌≡◌, ℕ, ◌+◌, ◌<◌, ◌≤◌, true, ◌⊎◌, List, [], ◌∷◌, ◌++◌, length, get_or, Some, None, Option, sym, refl, ap, ◌∙◌, subst, subst₂, inl, inr, not-suc-le-zero, arith, length-append}
use lib.ListN.{get_or-append}
use lib.Seq.{get_or_at}
use Rattle.std.proofs.lemmas.Bool.{cases_lt}
use Rattle.look.proofs.Bits.{none_of_zero}
use Rattle.look.specs.Bits.{bit_on}
use Rattle.lengths.specs.Sheets.{by_sheet, Labelled}
use Rattle.map.specs.Questions.{first_no}
use Rattle.stl.specs.Formulas.{Holds, formulas}
use Rattle.stl.specs.Rows.{named, row_at, ForUntil, by_logic}
use Rattle.stl.specs.Structures.{Structure, WellFormed}
use Rattle.stl.specs.declared.row.Row.{Row}
use Rattle.stl.specs.declared.row.Row.TheVariants.{True, Sign, Not, Or, Next, Until}
use Rattle.stl.proofs.Formulas.{formula_at, formula_stays}
use Rattle.calls.specs.Answers.{State, questions, Grants, Decided}
use Rattle.calls.specs.Effects.{Tables, lent, Sought, Writes, Leaves, Gives}
use Rattle.calls.specs.Histories.{Kept}
use Rattle.calls.specs.declared.call.Answer.{Answer}
use Rattle.calls.specs.declared.call.Call.{Call}
use Rattle.calls.specs.declared.fault.SessionFault.{SessionFault}
use Rattle.calls.proofs.Carried.{then}
use Rattle.calls.proofs.Itself.{satisfied_built}
use Rattle.calls.proofs.Questions.{may_add, may_mark}

-- what an until alone can have, it has
pub of_until : (row : Row) (P : ℕ → ℕ → Type 0) (X : Type 0) → ((x y : ℕ) → P x y → X) → ForUntil row P ⊥ → X
of_until True P X f w = absurd w
of_until (Sign x) P X f w = absurd w
of_until (Not x) P X f w = absurd w
of_until (Or x y) P X f w = absurd w
of_until (Next x) P X f w = absurd w
of_until (Until x y) P X f w = f x y w

module _ (k : Structure) where
  -- a sheet of zeros, before any row
  pub kept_opened : (sheet : List ℕ) → k.size ≤ length sheet → ((s : ℕ) → s < k.size → get_or sheet s 0 ≡ 0) → Kept k (record { rows = []; marked = 0 }) sheet
  kept_opened sheet fits zeros = record {
    fits = fits;
    few = omega arith;
    counted = omega arith;
    earlier = λ r h. absurd (not-suc-le-zero h);
    faithful = λ r s h. absurd (not-suc-le-zero h);
    blank = λ r s h i. ap (λ x. bit_on x r) (zeros s i) ∙ none_of_zero r;
  }

  module _ (well : WellFormed k) (st : State) (sheet : List ℕ) (kept : Kept k st sheet) where
    -- a row that names earlier ones is added
    kept_added : (row : Row) → length st.rows < 64 → named row (length st.rows) ≡ true → Kept k (record { rows = st.rows ++ (row ∷ []); marked = st.marked }) sheet
    kept_added row p q = record {
      fits = kept.fits;
      few = omega (arith, length-append st.rows (row ∷ []));
      counted = omega (arith, kept.counted, length-append st.rows (row ∷ []));
      earlier = λ r h. go r h (cases_lt r (length st.rows));
      faithful = λ r s h i. subst (λ f. by_sheet sheet r s ↔ Holds k f s) (sym (formula_stays st.rows (row ∷ []) r (omega (arith, kept.counted)))) (kept.faithful r s h i);
      blank = kept.blank;
    }
      where
        go : (r : ℕ) → r < length (st.rows ++ (row ∷ [])) → (r < length st.rows) ⊎ (length st.rows ≤ r) → named (get_or (st.rows ++ (row ∷ [])) r True) r ≡ true
        go r h (inl i) = subst (λ x. named x r ≡ true) (sym (get_or-append st.rows (row ∷ []) True r i)) (kept.earlier r i)
        go r h (inr i) =
            let e : length st.rows ≡ r = omega (arith, length-append st.rows (row ∷ [])) in
            subst (λ x. named x r ≡ true) (sym (get_or_at st.rows row [] True r e)) (subst (λ n. named row n ≡ true) e q)

    -- the next row is given its labels
    kept_marked : (after : List ℕ) → st.marked < length st.rows → Labelled k sheet st.marked (row_at st.rows st.marked) k.size after → Kept k (record { rows = st.rows; marked = st.marked + 1 }) after
    kept_marked after h w = record {
      fits = omega (arith, kept.fits, w.sized);
      few = kept.few;
      counted = omega arith;
      earlier = kept.earlier;
      faithful = λ r s i j. go r s i j (cases_lt r st.marked);
      blank = λ r s i j. w.other r s (λ e. omega arith) ∙ kept.blank r s (omega arith) j;
    }
      where
        here : (s : ℕ) → s < k.size → by_sheet after st.marked s ↔ by_logic k st.rows st.marked s
        here s j =
            let named_here = kept.earlier st.marked h in
            let built = satisfied_built k well (by_sheet sheet) (formulas st.rows) st.marked kept.faithful (row_at st.rows st.marked) s named_here j in
            subst (λ f. by_sheet after st.marked s ↔ Holds k f s) (sym (formula_at st.rows st.marked h named_here)) (then (w.here s j) built)

        go : (r s : ℕ) → r < st.marked + 1 → s < k.size → (r < st.marked) ⊎ (st.marked ≤ r) → by_sheet after r s ↔ by_logic k st.rows r s
        go r s i j (inl l) = subst (λ b. (b ≡ true) ↔ by_logic k st.rows r s) (sym (w.other r s (λ e. omega arith))) (kept.faithful r s l j)
        go r s i j (inr l) =
            let e : st.marked ≡ r = omega arith in
            subst (λ q. by_sheet after q s ↔ by_logic k st.rows q s) e (here s j)

  module _ (well : WellFormed k) (st : State) (t : Tables) (kept : Kept k st t.sheet) where
    -- a call that no question stopped
    kept_granted : {c : Call} {a : Answer} {after : State} (u : Tables) → first_no (questions k st (lent t) c) ≡ None → Grants k (by_sheet t.sheet) st (lent t) c a after → Writes k st t c a u → Kept k after u.sheet
    kept_granted u q (Grants.added row) w =
        subst (λ x. Kept k (record { rows = st.rows ++ (row ∷ []); marked = st.marked }) x.sheet) (sym w)
        (let may = may_add k st (lent t) row q in kept_added well st t.sheet kept row may.0 may.1)
    kept_granted u q (Grants.marked n v) w = kept_marked well st t.sheet kept u.sheet (may_mark k st (lent t) q) w.0
    kept_granted u q (Grants.label s r b v) w = subst (λ x. Kept k st x.sheet) (sym w) kept
    kept_granted u q (Grants.verdict r b v) w = subst (λ x. Kept k st x.sheet) (sym w) kept
    kept_granted u q (Grants.witness s r a v) w =
        subst (Kept k st) (sym (of_until (row_at st.rows r) (λ x y. Sought k (by_sheet t.sheet x) (by_sheet t.sheet y) s t u a) (u.sheet ≡ t.sheet) (λ x y z. z.sheet) w)) kept

    -- any call
    kept_decided : (c : Call) (a : Answer) (after : State) (u : Tables) (o : Option SessionFault) → first_no (questions k st (lent t) c) ≡ o → Decided k (by_sheet t.sheet) st (lent t) c a after o → Leaves k st t c a u o → Kept k after u.sheet
    kept_decided c a after u None q g w = kept_granted u q g w
    kept_decided c a after u (Some f) q g w = subst₂ (λ x y. Kept k x y.sheet) (sym g.1) (sym w) kept

    -- a call leaves what is kept
    pub kept_after : (c : Call) (a : Answer) (after : State) (u : Tables) → Gives k st t c a after u → Kept k after u.sheet
    kept_after c a after u g = kept_decided c a after u (first_no (questions k st (lent t) c)) refl g.answers g.leaves
