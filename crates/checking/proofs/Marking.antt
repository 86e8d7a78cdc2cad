-- One row marked, or none left. Assumes nothing.
use Rattle.std.proofs.Common.{◌≡◌, ℕ, ◌+◌, ◌<◌, ◌≤◌, List, length, Some, None, Option, refl, ap, ⊎_elim, arith}
use Rattle.std.proofs.lemmas.Bool.{lt-ltb, le-leb, cases_lt}
use Rattle.calls.proofs.Questions.{may_mark}
use Rattle.calls.specs.Answers.{State, Lent, questions, Grants, Decided}
use Rattle.calls.specs.Effects.{Tables, lent, alone, Gives}
use Rattle.calls.specs.declared.call.Answer.{Answer}
use Rattle.calls.specs.declared.call.Answer.TheVariants as answer
use Rattle.calls.specs.declared.call.Call.TheVariants as call
use Rattle.calls.specs.declared.fault.SessionFault.{SessionFault}
use Rattle.lengths.specs.Sheets.{by_sheet}
use Rattle.map.proofs.Asked.{passes}
use Rattle.map.specs.Questions.{first_no}
use Rattle.stl.specs.Structures.{Structure}

-- what a mark that is granted leaves
pub record OneMore (st after : State) : Type 0 where
  pub left : st.marked < length st.rows
  pub same : after.rows ≡ st.rows
  pub one : after.marked ≡ st.marked + 1

-- a mark that is granted
granted_mark : {k : Structure} {V : ℕ → ℕ → Type 0} {st after : State} {l : Lent} {a : Answer} → Grants k V st l call.Mark a after → (n : ℕ) × (a ≡ answer.Marked st.marked n) × (after ≡ record { rows = st.rows; marked = st.marked + 1 })
granted_mark (Grants.marked n w) = (n, refl, refl)

module _ (k : Structure) (st after : State) (sheet : List ℕ) where
  abbrev asked : Option SessionFault
  asked = first_no (questions k st (lent (alone sheet)) call.Mark)

  by_mark : (r n : ℕ) (o : Option SessionFault) → asked ≡ o → Decided k (by_sheet sheet) st (lent (alone sheet)) call.Mark (answer.Marked r n) after o → OneMore st after
  by_mark r n None q d = let p = granted_mark d in record { left = may_mark k st (lent (alone sheet)) q; same = ap (λ (x : State). x.rows) p.2; one = ap (λ (x : State). x.marked) p.2 }
  by_mark r n (Some f) q d = let e = d.0 in let z : ◌≡◌ {A = ℕ} 0 1 = cc in absurd (omega arith)

  -- a row was marked
  pub one_more : (r n : ℕ) (u : Tables) → Gives k st (alone sheet) call.Mark (answer.Marked r n) after u → OneMore st after
  one_more r n u g = by_mark r n asked refl g.answers

  by_none : (f : SessionFault) (o : Option SessionFault) → asked ≡ o → k.size ≤ length sheet → Decided k (by_sheet sheet) st (lent (alone sheet)) call.Mark (answer.Refused f) after o → (after ≡ st) × (length st.rows ≤ st.marked)
  by_none f None q h d = let e = (granted_mark d).1 in let z : ◌≡◌ {A = ℕ} 0 1 = cc in absurd (omega arith)
  by_none f (Some g) q h d = (
    d.1,
    ⊎_elim
        (λ l. let p = passes (questions k st (lent (alone sheet)) call.Mark) (le-leb _ _ h, (lt-ltb _ _ l, tt)) in let z : ◌≡◌ {A = ℕ} 0 1 = cc in absurd (omega arith))
        (λ l. l)
        (cases_lt st.marked (length st.rows)),
  )

  -- none was left
  pub none_left : (f : SessionFault) (u : Tables) → k.size ≤ length sheet → Gives k st (alone sheet) call.Mark (answer.Refused f) after u → (after ≡ st) × (length st.rows ≤ st.marked)
  none_left f u h g = by_none f asked refl h g.answers
