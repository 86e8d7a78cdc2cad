-- An answer is carried across a fold, and from one valuation to another that says the same. Assumes nothing.
use Rattle.std.specs.Prelude.{◌↔◌}
use Rattle.std.proofs.Common.{◌≡◌, ℕ, ◌<◌, ◌≤◌, true, ◌⊎◌, length, Some, None, Option, sym, refl, subst, inl, inr, arith}
use Rattle.std.proofs.lemmas.Bool.{cases_lt}
use Rattle.stl.specs.Folds.{Folds}
use Rattle.stl.specs.Rows.{named, row_at, Reach}
use Rattle.stl.specs.Structures.{Structure, WellFormed}
use Rattle.stl.specs.Until.{Greatest}
use Rattle.stl.specs.declared.row.Row.{Row}
use Rattle.stl.proofs.FoldLengths.{length_forth, length_below, greatest_forth}
use Rattle.stl.proofs.Folds.{Across, lifted}
use Rattle.map.specs.Questions.{first_no}
use Rattle.calls.specs.Alike.{Alike}
use Rattle.calls.specs.Answers.{State, Lent, questions, Found, none, short, shown, Grants, Decided, Answers}
use Rattle.calls.specs.declared.call.Answer.{Answer}
use Rattle.calls.specs.declared.call.Answer.TheVariants as answer
use Rattle.calls.specs.declared.call.Call.{Call}
use Rattle.calls.specs.declared.call.Call.TheVariants as call
use Rattle.calls.specs.declared.fault.SessionFault.{SessionFault}
use Rattle.calls.proofs.Questions.{may_mark, may_label, may_judge, may_seek, for_operands, class_of, same_questions}

-- one after the other
pub then : {A B C : Type 0} → A ↔ B → B ↔ C → A ↔ C
then e f = ((λ x. f.0 (e.0 x)), (λ x. e.1 (f.1 x)))

-- what is found of runs goes across a fold
module _ (full folded : Structure) (class : ℕ → ℕ) (well : WellFormed full) (fold : Folds full folded class)
    (A B C D : ℕ → Type 0) (f : Across full class A C) (g : Across full class B D) where
  -- what is found from the class is the same
  pub found_forth : WellFormed folded → (s room space : ℕ) → ((n : ℕ) → n < folded.size → (n < room) ↔ (n < space)) → {a : Answer} → s < full.size → Found full A B s room a → Found folded C D (class s) space a
  found_forth welled s room space rooms h (none w) = none (λ rest r. let over = lifted full folded class well fold A B C D f g s rest h r in w over.0 over.1)
  found_forth welled s room space rooms h (short n l w) = short n (length_forth full folded class well fold A B C D f g s n h l) (go (cases_lt n space))
    where
      go : (n < space) ⊎ (space ≤ n) → space ≤ n
      go (inl i) = absurd (omega (arith, (rooms n (length_below full folded class well fold A B C D f g welled s n h l)).1 i))
      go (inr i) = i
  found_forth welled s room space rooms h (shown n l w) = shown n (length_forth full folded class well fold A B C D f g s n h l) ((rooms n (length_below full folded class well fold A B C D f g welled s n h l)).0 w)

-- V on the full structure and W on the folded one say the same of the marked rows, each of which names earlier ones
module _ (full folded : Structure) (class : ℕ → ℕ) (well : WellFormed full) (welled : WellFormed folded) (fold : Folds full folded class)
    (V W : ℕ → ℕ → Type 0) (st : State) (counted : st.marked ≤ length st.rows) (earlier : (r : ℕ) → r < length st.rows → named (row_at st.rows r) r ≡ true)
    (agree : (r : ℕ) → r < st.marked → Across full class (V r) (W r)) where
  -- the reach of the next row is the same
  reach_forth : (row : Row) (n : ℕ) → named row st.marked ≡ true → Reach full V row n → Reach folded W row n
  reach_forth row n e w =
      for_operands row st.marked (λ x y. Greatest full (V x) (V y) n) (λ x y. Greatest folded (W x) (W y) n) (n ≡ 0) e
      (λ x y h k. greatest_forth full folded class well fold (V x) (V y) (W x) (W y) (agree x h) (agree y k) n) w

  -- all starts have a row, on both or on neither
  starts_forth : (r : ℕ) → r < st.marked → ((s : ℕ) → full.start s ≡ true → V r s) ↔ ((d : ℕ) → folded.start d ≡ true → W r d)
  starts_forth r h = (
    (λ f d e. let over = fold.started d (welled.starts d e) e in subst (W r) over.3 ((agree r h over.0 over.1).0 (f over.0 over.2))),
    (λ f s e. let k = well.starts s e in (agree r h s k).1 (f (class s) (fold.starts s k e))),
  )

  module _ (l m : Lent) (rooms : (n : ℕ) → n < folded.size → (n < l.run) ↔ (n < m.run)) where
    -- what a call grants
    granted_forth : {c d : Call} {a : Answer} {after : State} → Alike full folded class c d → first_no (questions full st l c) ≡ None → Grants full V st l c a after → Grants folded W st m d a after
    granted_forth (Alike.add row) q (Grants.added row') = Grants.added row
    granted_forth Alike.mark q (Grants.marked n w) =
        let h = may_mark full st l q in
        Grants.marked n (reach_forth (row_at st.rows st.marked) n (earlier st.marked h) w)
    granted_forth (Alike.label s d r e) q (Grants.label s' r' b w) =
        let h = may_label full st l s r q in
        subst (λ x. Grants folded W st m (call.Label x r) (answer.Label b) st) (sym (class_of full folded class s d e h.0))
        (Grants.label (class s) r b (then w (agree r h.1 s h.0)))
    granted_forth (Alike.verdict r) q (Grants.verdict r' b w) =
        Grants.verdict r b (then w (starts_forth r (may_judge full st l r q)))
    granted_forth {a} (Alike.witness s d r e) q (Grants.witness s' r' a' w) =
        let h = may_seek full st l s r q in
        subst (λ x. Grants folded W st m (call.Witness x r) a st) (sym (class_of full folded class s d e h.0))
        (Grants.witness (class s) r a
        (for_operands (row_at st.rows r) r (λ x y. Found full (V x) (V y) s l.run a) (λ x y. Found folded (W x) (W y) (class s) m.run a) ⊥ (earlier r (omega arith))
        (λ x y i j. found_forth full folded class well fold (V x) (V y) (W x) (W y) (agree x (omega arith)) (agree y (omega arith)) welled s l.run m.run rooms h.0) w))

    -- and what it answers after its questions
    decided_forth : {c d : Call} (a : Answer) (after : State) → Alike full folded class c d → (o : Option SessionFault) → first_no (questions full st l c) ≡ o → Decided full V st l c a after o → Decided folded W st m d a after o
    decided_forth a after e None q w = granted_forth e q w
    decided_forth a after e (Some f) q w = w

    -- the answer on the full structure is the answer on the folded one
    pub answers_forth : {c d : Call} (a : Answer) (after : State) → Alike full folded class c d → (full.size ≤ l.sheet) ↔ (folded.size ≤ m.sheet) → (full.size ≤ l.work) ↔ (folded.size ≤ m.work) →
        Answers full V st l c a after → Answers folded W st m d a after
    answers_forth {c} {d} a after e p q w =
        subst (Decided folded W st m d a after) (same_questions full folded class fold st l m p q e)
        (decided_forth a after e (first_no (questions full st l c)) refl w)
