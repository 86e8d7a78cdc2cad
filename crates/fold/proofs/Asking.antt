-- The label that is given through a fold. Assumes nothing.
use Rattle.std.proofs.Common.{◌≡◌, ℕ, ◌≤◌, Bool, true, false, cond, ◌&&◌, ltb, leb, List, [], ◌∷◌, length, Some, None, Ok, Err, Option, Result, refl, ap, ◌∙◌, arith}
use Rattle.std.proofs.lemmas.Bool.{le-ltb, lt-ltb, le-leb, and_from}
use Rattle.calls.proofs.Carried.{then}
use Rattle.calls.proofs.OneMap.{all_right}
use Rattle.calls.proofs.Unique.{decided_unique}
use Rattle.calls.specs.Answers.{State, Grants, Decided}
use Rattle.calls.specs.Effects.{alone, lent, Gives}
use Rattle.calls.specs.declared.call.Answer.TheVariants as answer
use Rattle.calls.specs.declared.call.Call.TheVariants as call
use Rattle.calls.specs.declared.fault.SessionFault.{SessionFault}
use Rattle.calls.specs.declared.fault.SessionFault.TheVariants.{ShortSheet, NoSuchState, NotMarked}
use Rattle.lengths.specs.Sheets.{label_of, by_sheet}
use Rattle.map.proofs.Asked.{passes}
use Rattle.map.proofs.Moves.{well_formed}
use Rattle.map.specs.Meaning.{Meaning, Bounded, structure}
use Rattle.map.specs.Questions.{ask, first_no}
use Rattle.session.specs.Sessions.{answered}
use Rattle.sharing.proofs.Chains.{folds}
use Rattle.sharing.specs.Accepts.{class_of}
use Rattle.sharing.specs.Through.{read}
use Rattle.stl.proofs.Folds.{both}
use Rattle.stl.specs.Structures.{Structure}
use Rattle.fold.specs.Asking.{classed, ask_questions, granted, asked, SpeaksOfFull}

-- what is read through the table is a state where s has a class that is one
read_there : (table : List ℕ) (n s : ℕ) → n ≤ 4294967295 → ltb (read table s) n ≡ classed table n s
read_there table n s h = go (ltb s (length table))
  where
    go : (b : Bool) → ltb (cond b (class_of table s) 4294967295) n ≡ (b && ltb (class_of table s) n)
    go true = refl
    go false = le-ltb 4294967295 n h

module _ (k : Structure) (st : State) (sheet : List ℕ) (table : List ℕ) (s r : ℕ) where
  answer_is : (x : Result Bool SessionFault) (b : Bool) → answered answer.Label x ≡ answer.Label b → x ≡ Ok b
  answer_is (Ok a) b e = let same : a ≡ b = cc in ap Ok same
  answer_is (Err f) b e = let z : ◌≡◌ {A = ℕ} 0 1 = cc in absurd (omega arith)

  -- what a session grants is the label
  label_is : (x : Result Bool SessionFault) → Grants k (by_sheet sheet) st (lent (alone sheet)) (call.Label (read table s) r) (answered answer.Label x) st → x ≡ Ok (label_of sheet r (read table s))
  label_is x g =
      let b = label_of sheet r (read table s) in
      answer_is x b (decided_unique k (by_sheet sheet) st (lent (alone sheet)) (call.Label (read table s) r) (answered answer.Label x) (answer.Label b) st st None g (Grants.label (read table s) r b ((λ h. h), (λ h. h)))).0

  refusal_is : (x : Result Bool SessionFault) (f : SessionFault) → answered answer.Label x ≡ answer.Refused f → x ≡ Err f
  refusal_is (Ok b) f e = let z : ◌≡◌ {A = ℕ} 0 1 = cc in absurd (omega arith)
  refusal_is (Err g) f e = let same : g ≡ f = cc in ap Err same

  decided_is : (x : Result Bool SessionFault) (o : Option SessionFault) → Decided k (by_sheet sheet) st (lent (alone sheet)) (call.Label (read table s) r) (answered answer.Label x) st o → x ≡ granted (label_of sheet r (read table s)) o
  decided_is x None d = label_is x d
  decided_is x (Some f) d = refusal_is x f d.0

  -- the label of the class is granted only where there is one
  of_class : (a b : Bool) → granted (label_of sheet r (read table s)) (first_no (ask a ShortSheet ∷ (ask (classed table k.size s) NoSuchState ∷ (ask b NotMarked ∷ [])))) ≡ granted (label_of sheet r (class_of table s)) (first_no (ask a ShortSheet ∷ (ask (classed table k.size s) NoSuchState ∷ (ask b NotMarked ∷ []))))
  of_class a b = go a (ltb s (length table)) (ltb (class_of table s) k.size)
    where
      go : (a b' c : Bool) → granted (label_of sheet r (cond b' (class_of table s) 4294967295)) (first_no (ask a ShortSheet ∷ (ask (b' && c) NoSuchState ∷ (ask b NotMarked ∷ [])))) ≡ granted (label_of sheet r (class_of table s)) (first_no (ask a ShortSheet ∷ (ask (b' && c) NoSuchState ∷ (ask b NotMarked ∷ []))))
      go false b' c = refl
      go true true c = refl
      go true false c = refl

  pub label_asked : k.size ≤ 4096 → (x : Result Bool SessionFault) → Gives k st (alone sheet) (call.Label (read table s) r) (answered answer.Label x) st (alone sheet) → x ≡ asked k.size sheet table st.marked s r
  label_asked h x g =
      decided_is x _ g.answers
      ∙ ap (λ b. granted (label_of sheet r (read table s)) (first_no (ask (leb k.size (length sheet)) ShortSheet ∷ (ask b NoSuchState ∷ (ask (ltb r st.marked) NotMarked ∷ []))))) (read_there table k.size s (omega arith))
      ∙ of_class (leb k.size (length sheet)) (ltb r st.marked)

-- the label speaks of the state of the full map
module _ {L : Type 0} (sign : L → ℕ → Bool) (same : L → L → Bool) (agree : (a b : L) → same a b ≡ true → (k : ℕ) → sign a k ≡ sign b k) (folded : Meaning L) (fitted : Bounded folded) where
  pub speaks : (table : List ℕ) (st : State) (sheet : List ℕ) (s r : ℕ) (x : Result Bool SessionFault) → x ≡ asked folded.size sheet table st.marked s r → SpeaksOfFull sign same folded table st sheet s r x
  speaks table st sheet s r x e full fits accepts past history h i =
      let kept = (all_right (structure sign folded) (well_formed sign folded fitted) history).1 in
      let d = class_of table s in
      let below = accepts.within s h in
      let yes = passes (ask_questions folded.size (length sheet) table st.marked s r) (le-leb _ _ kept.fits, (and_from _ _ (lt-ltb s (length table) (omega (arith, accepts.sized))) (lt-ltb d folded.size below), (lt-ltb _ _ i, tt))) in
      let over = both (structure sign full) (structure sign folded) (class_of table) (well_formed sign full fits) (folds sign same agree full folded table accepts) _ s h in
      (label_of sheet r d, e ∙ ap (granted (label_of sheet r d)) yes, then (kept.faithful r d i below) (over.1, over.0))
