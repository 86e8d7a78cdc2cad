-- Questions that are all answered yes, and the first no. Assumes nothing.
use Rattle.std.proofs.Common.{◌≡◌, ℕ, ◌<◌, Bool, true, false, cond, List, [], ◌∷◌, ◌++◌, Some, None, Option, refl, ap, ◌∙◌}
use Rattle.map.specs.Counts.{or_else, lowest_no}
use Rattle.map.specs.Questions.{Question, ask, each, refuse_at, refused_by, first_no}
use Rattle.map.proofs.Count.{never_none, all_yes, none_no}

module _ {F : Type 0} where
  neither : (o next : Option F) → or_else o next ≡ None → (o ≡ None) × (next ≡ None)
  neither None next e = (refl, e)
  neither (Some f) next e = never_none f e

  nowhere : (f : ℕ → F) (o : Option ℕ) → refuse_at f o ≡ None → o ≡ None
  nowhere f None e = refl
  nowhere f (Some i) e = never_none (f i) e

  -- each answer is yes, wherever it was asked
  abbrev pub AllYes : List (Question F) → Type 0
  AllYes [] = Unit {0}
  AllYes (ask answer f ∷ more) = (answer ≡ true) × AllYes more
  AllYes (each n answer f ∷ more) = ((i : ℕ) → i < n → answer i ≡ true) × AllYes more

  -- nothing is refused only where each answer is yes
  pub answered : (qs : List (Question F)) → first_no qs ≡ None → AllYes qs
  answered [] e = tt
  answered (ask true f ∷ more) e = (refl, answered more e)
  answered (ask false f ∷ more) e = never_none f e
  answered (each n answer f ∷ more) e =
      let p = neither (refused_by (each n answer f)) (first_no more) e in
      (all_yes answer n (nowhere f (lowest_no answer n) p.0), answered more p.1)

  -- and where each answer is yes, nothing is refused
  pub passes : (qs : List (Question F)) → AllYes qs → first_no qs ≡ None
  passes [] h = refl
  passes (ask answer f ∷ more) h = ap (λ b. or_else (cond b None (Some f)) (first_no more)) h.0 ∙ passes more h.1
  passes (each n answer f ∷ more) h = ap (λ o. or_else (refuse_at f o) (first_no more)) (none_no answer n h.0) ∙ passes more h.1

  -- a no after questions that are all answered yes decides
  pub stops : (qs : List (Question F)) (answer : Bool) (f : F) (more : List (Question F)) → AllYes qs → answer ≡ false → first_no (qs ++ (ask answer f ∷ more)) ≡ Some f
  stops [] answer f more h e = ap (λ b. or_else (cond b None (Some f)) (first_no more)) e
  stops (ask said g ∷ qs) answer f more h e = ap (λ b. or_else (cond b None (Some g)) (first_no (qs ++ (ask answer f ∷ more)))) h.0 ∙ stops qs answer f more h.1 e
  stops (each n said g ∷ qs) answer f more h e = ap (λ o. or_else (refuse_at g o) (first_no (qs ++ (ask answer f ∷ more)))) (none_no said n h.0) ∙ stops qs answer f more h.1 e
