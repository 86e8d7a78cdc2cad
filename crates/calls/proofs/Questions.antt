-- The questions of a call: what a yes to all says, and that a fold keeps the answers. Assumes nothing.
use Rattle.std.specs.Prelude.{◌↔◌}
use Rattle.std.proofs.Common.{◌≡◌, ℕ, suc, ◌<◌, ◌≤◌, Bool, true, false, ltb, leb, List, [], ◌∷◌, length, Some, None, Option, sym, refl, ap, ◌∙◌, subst, inl, inr, arith}
use Rattle.std.proofs.lemmas.Bool.{leb-true, le-leb, lt-leb, and_parts, ltb-true}
use Rattle.map.specs.Questions.{Question, ask, first_no}
use Rattle.stl.specs.Folds.{Folds}
use Rattle.stl.specs.Rows.{named, is_until, row_at, ForUntil}
use Rattle.stl.specs.Structures.{Structure}
use Rattle.stl.specs.declared.row.Row.{Row}
use Rattle.stl.specs.declared.row.Row.TheVariants.{True, Sign, Not, Or, Next, Until}
use Rattle.calls.specs.Alike.{SameState, Alike}
use Rattle.calls.specs.Answers.{State, Lent, further, questions, Decided, Answers}
use Rattle.calls.specs.declared.call.Answer.TheVariants as answer
use Rattle.calls.specs.declared.call.Call.{Call}
use Rattle.calls.specs.declared.call.Call.TheVariants as call
use Rattle.calls.specs.declared.fault.SessionFault.{SessionFault}
use Rattle.calls.specs.declared.fault.SessionFault.TheVariants.{ShortSheet, TooManyRows, NamesLaterRow, NothingToMark, NoSuchState, NotMarked, NotUntil, ShortWork}
use Rattle.calls.proofs.Unique.{bool_same}

-- tests of orders that say the same
leb_same : (a b c d : ℕ) → (a ≤ b) ↔ (c ≤ d) → leb a b ≡ leb c d
leb_same a b c d e = bool_same (leb a b) (leb c d) ((λ h. le-leb c d (e.0 (leb-true a b h))), (λ h. le-leb a b (e.1 (leb-true c d h))))

-- no question was answered no: so not the first
pub passed : (b : Bool) (f : SessionFault) (more : List (Question SessionFault)) → first_no (ask b f ∷ more) ≡ None → (b ≡ true) × (first_no more ≡ None)
passed true f more e = (refl, e)
passed false f more e = let z : ◌≡◌ {A = ℕ} 0 1 = cc in absurd (omega arith)

-- what comes after a question decides if it is answered yes
after : (b : Bool) (xs ys : List (Question SessionFault)) → first_no xs ≡ first_no ys → first_no (ask b ShortSheet ∷ xs) ≡ first_no (ask b ShortSheet ∷ ys)
after true xs ys e = e
after false xs ys e = refl

-- a sheet too short stops every call
pub stopped : (k : Structure) (st : State) (l : Lent) (c : Call) → l.sheet < k.size → first_no (questions k st l c) ≡ Some ShortSheet
stopped k st l c h = ap (λ b. first_no (ask b ShortSheet ∷ further k st l c)) (lt-leb k.size l.sheet h)

-- what the questions of a call establish where none is answered no
module _ (k : Structure) (st : State) (l : Lent) where
  -- the questions after the first
  own : (c : Call) → first_no (questions k st l c) ≡ None → first_no (further k st l c) ≡ None
  own c q = (passed (leb k.size l.sheet) ShortSheet (further k st l c) q).1

  -- there is room, and the row names earlier ones
  pub may_add : (row : Row) → first_no (questions k st l (call.Add row)) ≡ None → (length st.rows < 64) × (named row (length st.rows) ≡ true)
  may_add row q =
      let a = passed (ltb (length st.rows) 64) TooManyRows (ask (named row (length st.rows)) NamesLaterRow ∷ []) (own (call.Add row) q) in
      (ltb-true (length st.rows) 64 a.0, (passed (named row (length st.rows)) NamesLaterRow [] a.1).0)

  -- a row is unmarked
  pub may_mark : first_no (questions k st l call.Mark) ≡ None → st.marked < length st.rows
  may_mark q = ltb-true st.marked (length st.rows) (passed (ltb st.marked (length st.rows)) NothingToMark [] (own call.Mark q)).0

  -- the row is marked
  pub may_judge : (r : ℕ) → first_no (questions k st l (call.Verdict r)) ≡ None → r < st.marked
  may_judge r q = ltb-true r st.marked (passed (ltb r st.marked) NotMarked [] (own (call.Verdict r) q)).0

  -- a state and a row, whatever else is asked
  there_and_marked : (s r : ℕ) (more : List (Question SessionFault)) → first_no (ask (ltb s k.size) NoSuchState ∷ ask (ltb r st.marked) NotMarked ∷ more) ≡ None → (s < k.size) × (r < st.marked)
  there_and_marked s r more q =
      let a = passed (ltb s k.size) NoSuchState (ask (ltb r st.marked) NotMarked ∷ more) q in
      let b = passed (ltb r st.marked) NotMarked more a.1 in
      (ltb-true s k.size a.0, ltb-true r st.marked b.0)

  -- the state is there and the row marked
  pub may_label : (s r : ℕ) → first_no (questions k st l (call.Label s r)) ≡ None → (s < k.size) × (r < st.marked)
  may_label s r q = there_and_marked s r [] (own (call.Label s r) q)

  -- the same for a witness
  pub may_seek : (s r : ℕ) → first_no (questions k st l (call.Witness s r)) ≡ None → (s < k.size) × (r < st.marked)
  may_seek s r q = there_and_marked s r (ask (is_until (row_at st.rows r)) NotUntil ∷ ask (leb k.size l.work) ShortWork ∷ []) (own (call.Witness s r) q)

  -- a call that showed a run named a state and a marked row
  pub sought : (V : ℕ → ℕ → Type 0) (s r n : ℕ) (after : State) → Answers k V st l (call.Witness s r) (answer.Witness n) after → (s < k.size) × (r < st.marked)
  sought V s r n after w = go (first_no (questions k st l (call.Witness s r))) refl w
    where
      go : (o : Option SessionFault) → first_no (questions k st l (call.Witness s r)) ≡ o → Decided k V st l (call.Witness s r) (answer.Witness n) after o → (s < k.size) × (r < st.marked)
      go None q g = may_seek s r q
      go (Some f) q g = let e : answer.Witness n ≡ answer.Refused f = g.0 in let z : ◌≡◌ {A = ℕ} 0 1 = cc in absurd (omega arith)

-- an operand of a row is among the rows before it
pub for_operands : (row : Row) (q : ℕ) (P R : ℕ → ℕ → Type 0) (Q : Type 0) → named row q ≡ true → ((x y : ℕ) → x < q → y < q → P x y → R x y) → ForUntil row P Q → ForUntil row R Q
for_operands True q P R Q e f w = w
for_operands (Sign x) q P R Q e f w = w
for_operands (Not x) q P R Q e f w = w
for_operands (Or x y) q P R Q e f w = w
for_operands (Next x) q P R Q e f w = w
for_operands (Until x y) q P R Q e f w = let p = and_parts (ltb x q) (ltb y q) e in f x y (ltb-true x q p.0) (ltb-true y q p.1) w

module _ (full folded : Structure) (class : ℕ → ℕ) where
  -- a state that is there is read through the fold
  pub class_of : (s d : ℕ) → SameState full folded class s d → s < full.size → d ≡ class s
  class_of s d (inl e) h = e.1
  class_of s d (inr e) h = absurd (omega (arith, e.0))

  module _ (fold : Folds full folded class) where
    -- a state is there exactly when what it is read as is
    there : (s d : ℕ) → SameState full folded class s d → (s < full.size) ↔ (d < folded.size)
    there s d (inl e) = ((λ h. subst (λ x. x < folded.size) (sym e.1) (fold.within s h)), (λ h. e.0))
    there s d (inr e) = ((λ h. absurd (omega (arith, e.0))), (λ h. absurd (omega (arith, e.1))))

    -- the questions after the first have the same answers
    further_same : (st : State) (l m : Lent) → (full.size ≤ l.work) ↔ (folded.size ≤ m.work) → {c d : Call} → Alike full folded class c d → first_no (further full st l c) ≡ first_no (further folded st m d)
    further_same st l m w (Alike.add row) = refl
    further_same st l m w Alike.mark = refl
    further_same st l m w (Alike.label s d r h) = ap (λ b. first_no (ask b NoSuchState ∷ ask (ltb r st.marked) NotMarked ∷ [])) (leb_same (suc s) full.size (suc d) folded.size (there s d h))
    further_same st l m w (Alike.verdict r) = refl
    further_same st l m w (Alike.witness s d r h) =
        let p = leb_same (suc s) full.size (suc d) folded.size (there s d h) in
        let q = leb_same full.size l.work folded.size m.work w in
        λ i. first_no (ask (p i) NoSuchState ∷ ask (ltb r st.marked) NotMarked ∷ ask (is_until (row_at st.rows r)) NotUntil ∷ ask (q i) ShortWork ∷ [])

    -- the same question is the first to be answered no
    pub same_questions : (st : State) (l m : Lent) → (full.size ≤ l.sheet) ↔ (folded.size ≤ m.sheet) → (full.size ≤ l.work) ↔ (folded.size ≤ m.work) → {c d : Call} → Alike full folded class c d →
        first_no (questions full st l c) ≡ first_no (questions folded st m d)
    same_questions st l m e w {c} {d} same =
        ap (λ b. first_no (ask b ShortSheet ∷ further full st l c)) (leb_same full.size l.sheet folded.size m.sheet e)
        ∙ after (leb folded.size m.sheet) (further full st l c) (further folded st m d) (further_same st l m w same)
