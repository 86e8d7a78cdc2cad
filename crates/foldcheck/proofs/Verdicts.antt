-- The first no of a fold, question by question; there is one verdict. Assumes nothing.
use Rattle.std.proofs.Common.{◌≡◌, ℕ, ◌+◌, ◌<◌, ◌≤◌, Bool, true, cond, eqb, ◌⊎◌, List, length, Some, None, Option, Decides, false, true≢false, sym, refl, ap, ◌∙◌, subst, inl, inr, arith}
use Rattle.std.proofs.lemmas.Bool.{cases_lt}
use Rattle.std.specs.Option.{unwrap_or}
use Rattle.map.specs.Meaning.{Meaning}
use Rattle.sharing.specs.Accepts.{Accepts}
use Rattle.foldcheck.specs.Faults.{refusal}
use Rattle.map.specs.Searches.{LowestNo}
use Rattle.foldcheck.specs.Verdicts.{Before, Yes, Asked, FirstNo, Judges, Decided}
use Rattle.foldcheck.specs.declared.fault.FoldFault.{FoldFault}
use Rattle.foldcheck.specs.declared.fault.FoldFault.TheVariants.{WrongLength, NoClass, OtherLook, MoveLost, MoveAdded, StartLost, StartAdded, NotAClass}

-- the number of a fault's question, and the state at fault
abbrev pub number : FoldFault → ℕ
number f = (refusal f).number

abbrev pub place : FoldFault → ℕ
place f = unwrap_or (refusal f).carried 0

-- the fault of a number at a state
abbrev pub fault : ℕ → ℕ → FoldFault
fault n s =
    cond (eqb n 27) WrongLength (cond (eqb n 28) (NoClass s) (cond (eqb n 29) (OtherLook s) (cond (eqb n 30) (MoveLost s) (cond (eqb n 31) (MoveAdded s) (cond (eqb n 32) (StartLost s) (cond (eqb n 33) (StartAdded s) (NotAClass s)))))))

-- a fault is told by its number and its state
told : (f : FoldFault) → fault (number f) (place f) ≡ f
told WrongLength = refl
told (NoClass s) = refl
told (OtherLook s) = refl
told (MoveLost s) = refl
told (MoveAdded s) = refl
told (StartLost s) = refl
told (StartAdded d) = refl
told (NotAClass d) = refl

numbered : (f : FoldFault) → (27 ≤ number f) × (number f < 35)
numbered WrongLength = (omega arith, omega arith)
numbered (NoClass s) = (omega arith, omega arith)
numbered (OtherLook s) = (omega arith, omega arith)
numbered (MoveLost s) = (omega arith, omega arith)
numbered (MoveAdded s) = (omega arith, omega arith)
numbered (StartLost s) = (omega arith, omega arith)
numbered (StartAdded d) = (omega arith, omega arith)
numbered (NotAClass d) = (omega arith, omega arith)

module _ {L : Type 0} (sign : L → ℕ → Bool) (same : L → L → Bool) (full folded : Meaning L) (table : List ℕ) where
  abbrev pub Said : FoldFault → Type 0
  Said = Yes sign same full folded table

  abbrev pub Put : FoldFault → Type 0
  Put = Asked sign same full folded table

  -- the questions of lower numbers have a yes at each state
  pub record Passed (n : ℕ) : Type 0 where
    pub yes : (f : FoldFault) → Put f → number f < n → Said f

  passed_none : Passed 27
  passed_none = record { yes = λ f a h. absurd (omega (arith, (numbered f).0)) }

  passed_more : (n : ℕ) → Passed n → ((s : ℕ) → Put (fault n s) → Said (fault n s)) → Passed (n + 1)
  passed_more n p q = record { yes = λ f a h. go f a h (cases_lt (number f) n) }
    where
      go : (f : FoldFault) → Put f → number f < n + 1 → (number f < n) ⊎ (n ≤ number f) → Said f
      go f a h (inl i) = p.yes f a i
      go f a h (inr i) =
          let e : n ≡ number f = omega arith in
          let is : fault n (place f) ≡ f = ap (λ m. fault m (place f)) e ∙ told f in
          subst Said is (q (place f) (subst Put (sym is) a))

  first : (f : FoldFault) → Passed (number f) → Put f → (Said f → ⊥) → ((s : ℕ) → s < place f → Said (fault (number f) s)) → FirstNo sign same full folded table f
  first f p a wrong lower = record { asked = a; no = wrong; before = before }
    where
      before : (g : FoldFault) → Put g → Before g f → Said g
      before g b (inl h) = p.yes g b h
      before g b (inr h) = subst Said (ap (λ m. fault m (place g)) (sym h.0) ∙ told g) (lower (place g) h.1)

  -- what is accepted has a yes everywhere
  all_yes : Accepts sign same full folded table → (f : FoldFault) → Put f → Said f
  all_yes a WrongLength h = a.sized
  all_yes a (NoClass s) h = a.within s h
  all_yes a (OtherLook s) h = a.looks s h
  all_yes a (MoveLost s) h = a.forth s h
  all_yes a (MoveAdded s) h = a.back s h
  all_yes a (StartLost s) h = a.starts s h
  all_yes a (StartAdded d) h = a.started d h
  all_yes a (NotAClass d) h = a.onto d h

  -- neither of two first nos is before the other
  first_once : (f g : FoldFault) → FirstNo sign same full folded table f → FirstNo sign same full folded table g → f ≡ g
  first_once f g one two = by_number (cases_lt (number f) (number g)) (cases_lt (number g) (number f))
    where
      by_place : number f ≡ number g → (place f < place g) ⊎ (place g ≤ place f) → (place g < place f) ⊎ (place f ≤ place g) → f ≡ g
      by_place e (inl h) k = absurd (one.no (two.before f one.asked (inr (e, h))))
      by_place e (inr h) (inl k) = absurd (two.no (one.before g two.asked (inr (sym e, k))))
      by_place e (inr h) (inr k) =
          let p : place f ≡ place g = omega arith in
          sym (told f) ∙ ap (λ n. fault n (place f)) e ∙ ap (fault (number g)) p ∙ told g

      by_number : (number f < number g) ⊎ (number g ≤ number f) → (number g < number f) ⊎ (number f ≤ number g) → f ≡ g
      by_number (inl h) k = absurd (one.no (two.before f one.asked (inl h)))
      by_number (inr h) (inl k) = absurd (two.no (one.before g two.asked (inl k)))
      by_number (inr h) (inr k) = by_place (omega arith) (cases_lt (place f) (place g)) (cases_lt (place g) (place f))

  judged_once : (v w : Option FoldFault) → Judges sign same full folded table v → Judges sign same full folded table w → v ≡ w
  judged_once None None a b = refl
  judged_once None (Some g) a b = absurd (b.no (all_yes a g b.asked))
  judged_once (Some f) None a b = absurd (a.no (all_yes b f a.asked))
  judged_once (Some f) (Some g) a b = ap Some (first_once f g a b)

  -- one verdict
  decided : (o : Option FoldFault) → Judges sign same full folded table o → Decided sign same full folded table o
  decided o j v = ((λ k. judged_once v o k j), (λ e. subst (Judges sign same full folded table) (sym e) j))

  pub wrong_length : (length table ≡ full.size → ⊥) → Decided sign same full folded table (Some WrongLength)
  wrong_length wrong = decided (Some WrongLength) (first WrongLength passed_none tt wrong (λ s h. absurd (omega arith)))

  -- the table has the right length
  pub passed_sized : length table ≡ full.size → Passed 28
  passed_sized sized = passed_more 27 passed_none (λ s a. sized)

  -- a question to which a test said no nowhere has a yes at each state
  pub passed : (n k : ℕ) {Says : ℕ → Bool → Type 0} → Passed n → LowestNo Says k None → ((s : ℕ) (b : Bool) → Says s b → Decides b (Said (fault n s))) → ((s : ℕ) → Put (fault n s) → s < k) → Passed (n + 1)
  passed n k p none says within = passed_more n p (λ s a. (says s true (none.none refl s (within s a))).0 refl)

  -- where it said no, the lowest state is at fault
  pub refused : (n : ℕ) (f : FoldFault) {o : Option FoldFault} {Says : ℕ → Bool → Type 0} {k : ℕ} → number f ≡ n → Some f ≡ o → Passed n → LowestNo Says k (Some (place f)) →
      ((s : ℕ) (b : Bool) → Says s b → Decides b (Said (fault n s))) → (place f < k → Put f) → Decided sign same full folded table o
  refused n f d e p found says within =
      let no = found.some (place f) refl in
      subst (Decided sign same full folded table) e (decided (Some f) (first f (subst Passed (sym d) p) (within no.0)
      (λ yes. absurd (true≢false (sym ((says (place f) false no.1).1 (subst Said (sym (ap (λ n. fault n (place f)) (sym d) ∙ told f)) yes)))))
      (λ s h. subst (λ n. Said (fault n s)) (sym d) ((says s true (no.2 s h)).0 refl))))

  -- all questions have a yes at each state
  pub accepts : Passed 35 → Accepts sign same full folded table
  accepts p = record {
    sized = p.yes WrongLength tt (omega arith);
    within = λ s h. p.yes (NoClass s) h (omega arith);
    looks = λ s h. p.yes (OtherLook s) h (omega arith);
    forth = λ s h. p.yes (MoveLost s) h (omega arith);
    back = λ s h. p.yes (MoveAdded s) h (omega arith);
    starts = λ s h. p.yes (StartLost s) h (omega arith);
    started = λ d h. p.yes (StartAdded d) h (omega arith);
    onto = λ d h. p.yes (NotAClass d) h (omega arith);
  }

  pub accepted : Passed 35 → Decided sign same full folded table None
  accepted p = decided None (accepts p)
