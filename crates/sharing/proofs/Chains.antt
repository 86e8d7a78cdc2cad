-- An accepted table is a fold, and a chain of accepted tables is one accepted table. Assumes nothing.
use Rattle.std.proofs.Common.{◌≡◌, ℕ, ◌<◌, Bool, true, false, List, Some, None, Option, sym, refl, ap, ◌∙◌, subst, subst₂, arith}
use lib.ListN.{length-map}
use Rattle.std.proofs.lemmas.Bool.{both_ways}
use Rattle.std.proofs.lemmas.List.{get_or-map}
use Rattle.map.proofs.Moves.{well_formed}
use Rattle.map.specs.Meaning.{Meaning, Bounded, sign_of, structure}
use Rattle.stl.specs.Folds.{Folds}
use Rattle.stl.specs.Structures.{Move}
use Rattle.sharing.proofs.Sharing.{share}
use Rattle.sharing.specs.Accepts.{class_of, same_look, Accepts}
use Rattle.sharing.specs.Chains.{chained, Chain, one, more}
use Rattle.sharing.specs.Claims.{FoldsStand, ChainsStand}

module _ {L : Type 0} (sign : L → ℕ → Bool) (same : L → L → Bool) where
  module _ (agree : (a b : L) → same a b ≡ true → (k : ℕ) → sign a k ≡ sign b k) where
    -- same looks have the same signs
    same_signs : (o p : Option L) → same_look same o p ≡ true → (k : ℕ) → sign_of sign o k ≡ sign_of sign p k
    same_signs None p e k = absurd (both_ways false refl e)
    same_signs (Some a) None e k = absurd (both_ways false refl e)
    same_signs (Some a) (Some b) e k = agree a b e k

    -- an accepted table is a fold
    pub folds : (full folded : Meaning L) (table : List ℕ) → Accepts sign same full folded table → Folds (structure sign full) (structure sign folded) (class_of table)
    folds full folded table a = record {
      within = a.within;
      on = λ s k h. same_signs (full.look s) (folded.look (class_of table s)) (a.looks s h) k;
      forth = λ s t h. a.forth s h t;
      back = λ s d h. a.back s h d;
      starts = a.starts;
      started = a.started;
      onto = a.onto;
    }

    pub folds_stand : FoldsStand sign same
    folds_stand full folded table b c a =
        let f = folds full folded table a in
        (f, share (structure sign full) (structure sign folded) (class_of table) (well_formed sign full b) (well_formed sign folded c) f)

  module _ (transitive : (a b c : L) → same a b ≡ true → same b c ≡ true → same a c ≡ true) where
    -- sameness through a look between
    same_through : (o p q : Option L) → same_look same o p ≡ true → same_look same p q ≡ true → same_look same o q ≡ true
    same_through None p q e f = e
    same_through (Some a) None q e f = absurd (both_ways false refl e)
    same_through (Some a) (Some b) None e f = f
    same_through (Some a) (Some b) (Some c) e f = transitive a b c e f

    -- two accepted tables in turn are one
    pub joined : (full middle folded : Meaning L) (first second : List ℕ) → Bounded full → Accepts sign same full middle first → Accepts sign same middle folded second → Accepts sign same full folded (chained first second)
    joined full middle folded first second b upper lower = record {
      sized = length-map first (class_of second) ∙ upper.sized;
      within = λ s h. subst (λ c. c < folded.size) (sym (at s h)) (lower.within (class_of first s) (upper.within s h));
      looks = λ s h. subst (λ c. same_look same (full.look s) (folded.look c) ≡ true) (sym (at s h))
          (same_through (full.look s) (middle.look (class_of first s)) (folded.look (class_of second (class_of first s))) (upper.looks s h) (lower.looks (class_of first s) (upper.within s h)));
      forth = λ s h t move.
          subst₂ (Move (structure sign folded)) (sym (at s h)) (sym (at t (target s h t move)))
          (lower.forth (class_of first s) (upper.within s h) (class_of first t) (upper.forth s h t move));
      back = λ s h d move.
          let next = lower.back (class_of first s) (upper.within s h) d (subst (λ c. Move (structure sign folded) c d) (at s h) move) in
          let over = upper.back s h next.0 next.1 in
          (over.0, over.1, at over.0 (target s h over.0 over.1) ∙ ap (class_of second) over.2 ∙ next.2);
      starts = λ s h e. subst (λ c. folded.start c ≡ true) (sym (at s h)) (lower.starts (class_of first s) (upper.within s h) (upper.starts s h e));
      started = λ d h e.
          let next = lower.started d h e in
          let over = upper.started next.0 next.1 next.2 in
          (over.0, over.1, over.2, at over.0 over.1 ∙ ap (class_of second) over.3 ∙ next.3);
      onto = λ d h.
          let next = lower.onto d h in
          let over = upper.onto next.0 next.1 in
          (over.0, over.1, at over.0 over.1 ∙ ap (class_of second) over.2 ∙ next.2);
    }
      where
        at : (s : ℕ) → s < full.size → class_of (chained first second) s ≡ class_of second (class_of first s)
        at s h = get_or-map (class_of second) first s 0 0 (omega (arith, upper.sized))

        target : (s : ℕ) → s < full.size → (t : ℕ) → Move (structure sign full) s t → t < full.size
        target s h t move = (well_formed sign full b).targets s t h move

    -- the chained table of a chain is accepted
    accepted : {full folded : Meaning L} {table : List ℕ} → Bounded full → Chain sign same full folded table → Accepts sign same full folded table
    accepted b (one a) = a
    accepted {full} b (more {middle = middle} {folded = folded} {table = table} {next = next} chain a) = joined full middle folded table next b (accepted b chain) a

  pub chains_stand : ((a b c : L) → same a b ≡ true → same b c ≡ true → same a c ≡ true) → ((a b : L) → same a b ≡ true → (k : ℕ) → sign a k ≡ sign b k) → ChainsStand sign same
  chains_stand transitive agree full folded table b c chain =
      let a = accepted transitive b chain in
      (a, (folds_stand agree full folded table b c a).1)
