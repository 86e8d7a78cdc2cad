-- A chained table, entry by entry, and what it folds. Assumes nothing.
use Rattle.std.proofs.Common.{◌≡◌, ℕ, ◌+◌, ◌<◌, Bool, true, List, [], ◌∷◌, ◌++◌, length, get_or, take, set, Ok, Err, Result, sym, ◌∙◌, subst, ap₂, arith}
use lib.ListN.{length-map}
use Rattle.std.proofs.lemmas.List.{get_or-map, take_more, take_more_set}
use Rattle.map.specs.Meaning.{structure}
use Rattle.sharing.proofs.Chains.{joined, folds_stand}
use Rattle.sharing.specs.Accepts.{class_of, Accepts}
use Rattle.sharing.specs.Chains.{chained}
use Rattle.sharing.specs.Shares.{Share}
use Rattle.fold.specs.Chaining.{Chained, Joins}
use Rattle.fold.specs.declared.fault.ChainFault.{ChainFault}

module _ (first second out : List ℕ) where
  -- one entry more
  pub chained_more : (i : ℕ) → i < length first → i < length out → take i out ≡ take i (chained first second) → take (i + 1) (set out i (get_or second (get_or first i 0) 0)) ≡ take (i + 1) (chained first second)
  chained_more i h k e =
      take_more_set out i _ k
      ∙ ap₂ (λ xs x. xs ++ (x ∷ [])) e (sym (get_or-map (class_of second) first i 0 0 h))
      ∙ sym (take_more (chained first second) i 0 (omega (arith, length-map first (class_of second))))

-- two accepted tables, chained
pub joins : {L : Type 0} (sign : L → ℕ → Bool) (same : L → L → Bool) → ((a b c : L) → same a b ≡ true → same b c ≡ true → same a c ≡ true) → ((a b : L) → same a b ≡ true → (k : ℕ) → sign a k ≡ sign b k) →
    (first second before after : List ℕ) {T : Type 0} (r : Result T ChainFault) → Chained first second before r after → Joins sign same first second r after
joins sign same transitive agree first second before after (Ok x) w = λ full middle folded b c upper lower.
    let a = joined sign same transitive full middle folded first second b upper lower in
    subst (λ table. Accepts sign same full folded table × Share (structure sign full) (structure sign folded) (class_of table)) (sym w.2)
    (a, (folds_stand sign same agree full folded (chained first second) b c a).1)
joins sign same transitive agree first second before after (Err f) w = tt
