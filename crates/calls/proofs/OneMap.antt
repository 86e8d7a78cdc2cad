-- Whatever a session is asked, each answer is the logic's, each run shown a shortest one, and its sheet is faithful. Assumes nothing.
use Rattle.std.proofs.Common.{◌≡◌, ℕ, ◌+◌, ◌<◌, List, ◌∷◌, length, take, drop, Some, None, Option, sym, refl, ap, ◌∙◌, subst, subst₂, arith, take_at}
use Rattle.lengths.specs.Sheets.{by_sheet}
use Rattle.lengths.specs.Tables.{Filled}
use Rattle.map.specs.Questions.{first_no}
use Rattle.stl.specs.Rows.{row_at, ForUntil, by_logic}
use Rattle.stl.specs.Structures.{Structure, WellFormed}
use Rattle.stl.specs.Until.{Shortest}
use Rattle.calls.specs.Answers.{State, questions, Decided, Answers}
use Rattle.calls.specs.Claims.{OneMap, AfterAnyCalls}
use Rattle.calls.specs.Effects.{Tables, lent, Sought, Leaves}
use Rattle.calls.specs.Histories.{Moment, Gave, History, opened, called, short, Kept, Each, Right}
use Rattle.calls.specs.declared.call.Answer.{Answer}
use Rattle.calls.specs.declared.call.Answer.TheVariants as answer
use Rattle.calls.specs.declared.call.Call.TheVariants as call
use Rattle.calls.specs.declared.fault.SessionFault.{SessionFault}
use Rattle.calls.specs.declared.fault.SessionFault.TheVariants.{ShortSheet}
use Rattle.calls.proofs.Carried.{answers_forth}
use Rattle.calls.proofs.Itself.{same, itself, call_itself, shortest_same, filled_same}
use Rattle.calls.proofs.Keeping.{kept_opened, kept_after}
use Rattle.calls.proofs.Questions.{for_operands, stopped, may_seek}

module _ (k : Structure) (well : WellFormed k) where
  module _ (st : State) (t : Tables) (kept : Kept k st t.sheet) where
    -- the run that was written is a shortest one by the logic
    shown : (s r n : ℕ) (after : State) (u : Tables) (o : Option SessionFault) → first_no (questions k st (lent t) (call.Witness s r)) ≡ o →
        Decided k (by_sheet t.sheet) st (lent t) (call.Witness s r) (answer.Witness n) after o → Leaves k st t (call.Witness s r) (answer.Witness n) u o →
        ForUntil (row_at st.rows r) (λ x y. (rest : List ℕ) × (take (n + 1) u.run ≡ s ∷ rest) × Shortest k (by_logic k st.rows x) (by_logic k st.rows y) s rest) ⊥
    shown s r n after u (Some f) q g w = let e : answer.Witness n ≡ answer.Refused f = g.0 in let z : ◌≡◌ {A = ℕ} 0 1 = cc in absurd (omega arith)
    shown s r n after u None q g w =
        let h = may_seek k st (lent t) s r q in
        for_operands (row_at st.rows r) r
        (λ x y. Sought k (by_sheet t.sheet x) (by_sheet t.sheet y) s t u (answer.Witness n))
        (λ x y. (rest : List ℕ) × (take (n + 1) u.run ≡ s ∷ rest) × Shortest k (by_logic k st.rows x) (by_logic k st.rows y) s rest)
        ⊥ (kept.earlier r (omega (arith, kept.counted)))
        (λ x y i j z.
        let v = z.run in (
          v.rest,
          ap (take (n + 1)) v.holds ∙ take_at (s ∷ v.rest) (drop (n + 1) t.run) (n + 1) (omega (arith, v.long)),
          shortest_same k well (by_sheet t.sheet x) (by_sheet t.sheet y) (by_logic k st.rows x) (by_logic k st.rows y)
              (λ d m. kept.faithful x d (omega arith) m) (λ d m. kept.faithful y d (omega arith) m) s v.rest h.0 v.shortest,
        ))
        w

    -- the lengths that were left are the shortest by the logic
    measured : (s r : ℕ) (a : Answer) (u : Tables) → first_no (questions k st (lent t) (call.Witness s r)) ≡ None → Leaves k st t (call.Witness s r) a u (first_no (questions k st (lent t) (call.Witness s r))) →
        ForUntil (row_at st.rows r) (λ x y. Filled k (by_logic k st.rows x) (by_logic k st.rows y) t.work u.work) ⊥
    measured s r a u q w =
        let h = may_seek k st (lent t) s r q in
        for_operands (row_at st.rows r) r
        (λ x y. Sought k (by_sheet t.sheet x) (by_sheet t.sheet y) s t u a)
        (λ x y. Filled k (by_logic k st.rows x) (by_logic k st.rows y) t.work u.work)
        ⊥ (kept.earlier r (omega (arith, kept.counted)))
        (λ x y i j z. filled_same k well (by_sheet t.sheet x) (by_sheet t.sheet y) (by_logic k st.rows x) (by_logic k st.rows y)
        (λ d m. kept.faithful x d (omega arith) m) (λ d m. kept.faithful y d (omega arith) m) t.work u.work z.work)
        (subst (Leaves k st t (call.Witness s r) a u) q w)

  -- a call that is lent the session's sheet
  right : (m : Moment) → Kept k m.before m.given.sheet → Gave k m → Right k m
  right m kept g =
      let st = m.before in
      let l = lent m.given in
      record {
        logic = answers_forth k k same well well (itself k) (by_sheet m.given.sheet) (by_logic k st.rows) st kept.counted kept.earlier (λ r h s i. kept.faithful r s h i)
            l l (λ n h. ((λ i. i), (λ i. i))) m.said m.after (call_itself k m.asked) ((λ h. h), (λ h. h)) ((λ h. h), (λ h. h)) g.answers;
        run = λ s r n e f.
            shown st m.given kept s r n m.after m.left (first_no (questions k st l (call.Witness s r))) refl
            (subst₂ (λ c a. Answers k (by_sheet m.given.sheet) st l c a m.after) e f g.answers)
            (subst₂ (λ c a. Leaves k st m.given c a m.left (first_no (questions k st l c))) e f g.leaves);
        work = λ s r e q.
            measured st m.given kept s r m.said m.left
            (subst (λ c. first_no (questions k st l c) ≡ None) e q)
            (subst (λ c. Leaves k st m.given c m.said m.left (first_no (questions k st l c))) e g.leaves);
      }

  -- a call that is lent too short a sheet is refused, whatever the rows say
  refused : (m : Moment) → length m.given.sheet < k.size → Gave k m → (m.said ≡ answer.Refused ShortSheet) × (m.after ≡ m.before)
  refused m h g = subst (Decided k (by_sheet m.given.sheet) m.before (lent m.given) m.asked m.said m.after) (stopped k m.before (lent m.given) m.asked h) g.answers

  -- so its answer is the logic's too
  right_short : (m : Moment) → length m.given.sheet < k.size → Gave k m → Right k m
  right_short m h g =
      let no = refused m h g in
      record {
        logic = subst (Decided k (by_logic k m.before.rows) m.before (lent m.given) m.asked m.said m.after) (sym (stopped k m.before (lent m.given) m.asked h)) no;
        run = λ s r n e f. let p : answer.Witness n ≡ answer.Refused ShortSheet = sym f ∙ no.0 in let z : ◌≡◌ {A = ℕ} 0 1 = cc in absurd (omega arith);
        work = λ s r e q. let p : Some ShortSheet ≡ None = sym (stopped k m.before (lent m.given) m.asked h) ∙ q in let z : ◌≡◌ {A = ℕ} 0 1 = cc in absurd (omega arith);
      }

  -- over a whole history
  pub all_right : {st : State} {sheet : List ℕ} {past : List Moment} → History k st sheet past → Each (Right k) past × Kept k st sheet
  all_right (opened sheet some fits zeros) = (tt, kept_opened k sheet fits zeros)
  all_right (called h m e f g) =
      let so = all_right h in
      let kept = subst₂ (Kept k) (sym e) (sym f) so.1 in
      ((right m kept g, so.0), kept_after k well m.before m.given kept m.asked m.said m.after m.left g)
  all_right (short {sheet = sheet} h m e f g) =
      let so = all_right h in
      ((right_short m f g, so.0), subst (λ x. Kept k x sheet) (sym ((refused m f g).1 ∙ e)) so.1)

-- over every structure and history
pub one_map : OneMap
one_map k well st sheet past h = all_right k well h

-- a call after any list of calls
pub after_any : (k : Structure) → WellFormed k → (m : Moment) → Gave k m → AfterAnyCalls k m
after_any k well m g past h =
    let so = all_right k well h in
    record {
      right = right k well m so.1 g;
      kept = kept_after k well m.before m.given so.1 m.asked m.said m.after m.left g;
      history = called h m refl refl g;
    }
