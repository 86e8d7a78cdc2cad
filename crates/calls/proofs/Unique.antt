-- A call has one answer, and leaves the session one way. Assumes nothing.
use Rattle.std.specs.Prelude.{◌↔◌}
use Rattle.std.proofs.Common.{◌≡◌, ℕ, ◌<◌, ◌≤◌, Bool, true, false, ◌⊎◌, Some, None, Option, sym, refl, ap, ◌∙◌, inl, inr, arith}
use Rattle.std.proofs.lemmas.Bool.{cases_lt}
use Rattle.map.specs.Questions.{first_no}
use Rattle.stl.specs.Rows.{row_at, ForUntil, Reach, by_logic}
use Rattle.stl.specs.Structures.{Structure}
use Rattle.stl.specs.Until.{Length, Greatest}
use Rattle.stl.specs.declared.row.Row.{Row}
use Rattle.stl.specs.declared.row.Row.TheVariants.{True, Sign, Not, Or, Next, Until}
use Rattle.calls.specs.Answers.{State, Lent, Found, none, short, shown, Grants, added, marked, label, verdict, witness, Decided, questions}
use Rattle.calls.specs.Claims.{OneAnswer}
use Rattle.calls.specs.declared.call.Answer.{Answer}
use Rattle.calls.specs.declared.call.Answer.TheVariants as answer
use Rattle.calls.specs.declared.call.Call.{Call}
use Rattle.calls.specs.declared.fault.SessionFault.{SessionFault}
use Rattle.calls.specs.declared.fault.SessionFault.TheVariants.{ShortRun}

-- tests that say the same are the same
pub bool_same : (b c : Bool) → (b ≡ true) ↔ (c ≡ true) → b ≡ c
bool_same true true e = refl
bool_same true false e = sym (e.0 refl)
bool_same false true e = e.1 refl
bool_same false false e = refl

module _ (k : Structure) where
  -- one shortest length
  length_unique : (A B : ℕ → Type 0) (s m n : ℕ) → Length k A B s m → Length k A B s n → m ≡ n
  length_unique A B s m n v w = omega (arith, v.1.least w.0 w.1.reaches, w.1.least v.0 v.1.reaches, v.2, w.2)

  -- no greatest is above another
  greatest_least : (A B : ℕ → Type 0) (m n : ℕ) → Greatest k A B m → Greatest k A B n → m ≤ n
  greatest_least A B m n v w = go (cases_lt 0 m)
    where
      go : (0 < m) ⊎ (m ≤ 0) → m ≤ n
      go (inl h) = let at = v.met h in w.above at.0 m at.1 at.2
      go (inr h) = omega arith

  -- one reach
  reach_unique : (V : ℕ → ℕ → Type 0) (row : Row) (m n : ℕ) → Reach k V row m → Reach k V row n → m ≡ n
  reach_unique V True m n v w = v ∙ sym w
  reach_unique V (Sign x) m n v w = v ∙ sym w
  reach_unique V (Not x) m n v w = v ∙ sym w
  reach_unique V (Or x y) m n v w = v ∙ sym w
  reach_unique V (Next x) m n v w = v ∙ sym w
  reach_unique V (Until x y) m n v w = omega (arith, greatest_least (V x) (V y) m n v w, greatest_least (V x) (V y) n m w v)

  -- what is found is one thing
  found_unique : (A B : ℕ → Type 0) (s room : ℕ) {a b : Answer} → Found k A B s room a → Found k A B s room b → a ≡ b
  found_unique A B s room (none v) (none w) = refl
  found_unique A B s room (none v) (short n l w) = absurd (v l.0 l.1.reaches)
  found_unique A B s room (none v) (shown n l w) = absurd (v l.0 l.1.reaches)
  found_unique A B s room (short m l v) (none w) = absurd (w l.0 l.1.reaches)
  found_unique A B s room (short m l v) (short n p w) = ap (λ i. answer.Refused (ShortRun i)) (length_unique A B s m n l p)
  found_unique A B s room (short m l v) (shown n p w) = absurd (omega (arith, length_unique A B s m n l p))
  found_unique A B s room (shown m l v) (none w) = absurd (w l.0 l.1.reaches)
  found_unique A B s room (shown m l v) (short n p w) = absurd (omega (arith, length_unique A B s m n l p))
  found_unique A B s room (shown m l v) (shown n p w) = ap answer.Witness (length_unique A B s m n l p)

  -- for a row that is an until
  sought_unique : (V : ℕ → ℕ → Type 0) (row : Row) (s room : ℕ) (a b : Answer) →
      ForUntil row (λ x y. Found k (V x) (V y) s room a) ⊥ → ForUntil row (λ x y. Found k (V x) (V y) s room b) ⊥ → a ≡ b
  sought_unique V True s room a b v w = absurd v
  sought_unique V (Sign x) s room a b v w = absurd v
  sought_unique V (Not x) s room a b v w = absurd v
  sought_unique V (Or x y) s room a b v w = absurd v
  sought_unique V (Next x) s room a b v w = absurd v
  sought_unique V (Until x y) s room a b v w = found_unique (V x) (V y) s room v w

  module _ (V : ℕ → ℕ → Type 0) (st : State) (l : Lent) where
    -- a call that no question stopped has one answer
    granted_unique : {c : Call} {a b : Answer} {after past : State} → Grants k V st l c a after → Grants k V st l c b past → (a ≡ b) × (after ≡ past)
    granted_unique (added row) (added row') = (refl, refl)
    granted_unique (marked m v) (marked n w) = (ap (answer.Marked st.marked) (reach_unique V (row_at st.rows st.marked) m n v w), refl)
    granted_unique (label s r b e) (label s' r' c f) = (ap answer.Label (bool_same b c ((λ h. f.1 (e.0 h)), (λ h. e.1 (f.0 h)))), refl)
    granted_unique (verdict r b e) (verdict r' c f) = (ap answer.Verdict (bool_same b c ((λ h. f.1 (e.0 h)), (λ h. e.1 (f.0 h)))), refl)
    granted_unique (witness s r a v) (witness s' r' b w) = (sought_unique V (row_at st.rows r) s l.run a b v w, refl)

    -- the answer to a call, and what the session keeps, are decided
    pub decided_unique : (c : Call) (a b : Answer) (after past : State) (o : Option SessionFault) → Decided k V st l c a after o → Decided k V st l c b past o → (a ≡ b) × (after ≡ past)
    decided_unique c a b after past None v w = granted_unique v w
    decided_unique c a b after past (Some f) v w = (v.0 ∙ sym w.0, v.1 ∙ sym w.1)

-- over every structure and call
pub one_answer : OneAnswer
one_answer k st l c a b after past v w = decided_unique k (by_logic k st.rows) st l c a b after past (first_no (questions k st l c)) v w
