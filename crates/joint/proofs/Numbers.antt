-- What a joint map has at the number of a pair. Assumes nothing.
use Rattle.std.proofs.Common.{◌≡◌, ℕ, ◌+◌, ◌*◌, ◌/◌, ◌%◌, ◌<◌, ◌&&◌, ltb, [], None, ap, ◌∙◌, ap₂, mul_comm, arith}
use Rattle.std.proofs.lemmas.Nat.{mul-add-lt, div-mul-add, mod-mul-add}
use Rattle.std.proofs.lemmas.Bool.{cond-true, lt-ltb}
use Rattle.map.specs.Meaning.{Meaning}
use Rattle.joint.specs.Pairs.{pairs, joined_look, paired_start, paired_look, paired_list, Numbered}

module _ {P Q : Type 0} (a : Meaning P) (b : Meaning Q) where
  -- the number of a pair of states is a state
  number_below : (i j : ℕ) → i < a.size → j < b.size → i * b.size + j < a.size * b.size
  number_below i j h g = omega (arith, mul-add-lt i b.size j a.size h g, mul_comm a.size b.size)

  -- what is read at the parts of that number is read at the pair
  at_pair : {X : Type 0} (f : ℕ → ℕ → X) (i j : ℕ) → j < b.size → f ((i * b.size + j) / b.size) ((i * b.size + j) % b.size) ≡ f i j
  at_pair f i j g = ap₂ f (div-mul-add i b.size j g) (mod-mul-add i b.size j g)

  -- each pair is found at its number
  pub numbered : Numbered a b
  numbered = record {
    start = λ i j h g. ap (λ t. t && paired_start a b (i * b.size + j)) (lt-ltb _ _ (number_below i j h g)) ∙ at_pair (λ x y. a.start x && b.start y) i j g;
    look = λ i j h g. cond-true (ltb (i * b.size + j) (a.size * b.size)) (paired_look a b (i * b.size + j)) None (lt-ltb _ _ (number_below i j h g)) ∙ at_pair (λ x y. joined_look (a.look x) (b.look y)) i j g;
    list = λ i j h g. cond-true (ltb (i * b.size + j) (a.size * b.size)) (paired_list a b (i * b.size + j)) [] (lt-ltb _ _ (number_below i j h g)) ∙ at_pair (λ x y. pairs b.size (a.list x) (b.list y)) i j g;
  }
