-- Two maps as one. State (a, b) has number a × n + b, where n is the size of the second map. Assumes nothing.
use Rattle.std.specs.Prelude.{◌≡◌, ℕ, ◌+◌, ◌*◌, ◌/◌, ◌%◌, ◌<◌, Bool, cond, ◌&&◌, List, [], ◌∷◌, ◌++◌, map, take, Some, None, Option, nat_le, nat_lt}
use Rattle.look.specs.declared.joint.JointLook.{JointLook}
use Rattle.map.specs.Counts.{longest}
use Rattle.map.specs.Meaning.{Meaning}
use Rattle.map.specs.Questions.{Question, ask}
use Rattle.joint.specs.declared.fault.JointFault.{JointFault}
use Rattle.joint.specs.declared.fault.JointFault.TheVariants.{TooManyStates, ListsTooLong}

-- two looks side by side, where both are there
abbrev pub joined_look : {P Q : Type 0} → Option P → Option Q → Option (JointLook P Q)
joined_look None right = None
joined_look (Some x) None = None
joined_look (Some x) (Some y) = Some (record { left = x; right = y })

-- the numbers of all pairs of the one list with the other: first the pairs of the first entry, in order
abbrev pub pairs : ℕ → List ℕ → List ℕ → List ℕ
pairs n [] ys = []
pairs n (x ∷ xs) ys = map (λ y. x * n + y) ys ++ pairs n xs ys

-- s is a start where both of its parts are
abbrev pub paired_start : {P Q : Type 0} → Meaning P → Meaning Q → ℕ → Bool
paired_start a b s = a.start (s / b.size) && b.start (s % b.size)

-- the looks of both parts of s
abbrev pub paired_look : {P Q : Type 0} → Meaning P → Meaning Q → ℕ → Option (JointLook P Q)
paired_look a b s = joined_look (a.look (s / b.size)) (b.look (s % b.size))

-- each entry for the first part of s with each entry for the second
abbrev pub paired_list : {P Q : Type 0} → Meaning P → Meaning Q → ℕ → List ℕ
paired_list a b s = pairs b.size (a.list (s / b.size)) (b.list (s % b.size))

-- the joint of two maps, however large
abbrev pub plain : {P Q : Type 0} → Meaning P → Meaning Q → Meaning (JointLook P Q)
plain a b = record {
  size = a.size * b.size;
  start = λ s. nat_lt s (a.size * b.size) && paired_start a b s;
  look = λ s. cond (nat_lt s (a.size * b.size)) (paired_look a b s) None;
  list = λ s. cond (nat_lt s (a.size * b.size)) (paired_list a b s) [];
}

-- how many states m × n pairs make: 0 where the joint is refused or there are more than 4,096
abbrev pub joint_size : Option JointFault → ℕ → ℕ → ℕ
joint_size None m n = cond (nat_le (m * n) 4096) (m * n) 0
joint_size (Some fault) m n = 0

-- the joint of two maps as far as a map may go: at most 4,096 states, and 32,768 entries in a list; a refused one has size 0
abbrev pub joint : {P Q : Type 0} → Option JointFault → Meaning P → Meaning Q → Meaning (JointLook P Q)
joint fault a b = record {
  size = joint_size fault a.size b.size;
  start = λ s. nat_lt s (joint_size fault a.size b.size) && paired_start a b s;
  look = λ s. cond (nat_lt s (joint_size fault a.size b.size)) (paired_look a b s) None;
  list = λ s. cond (nat_lt s (joint_size fault a.size b.size)) (take 32768 (paired_list a b s)) [];
}

-- what is asked of two maps before they are one
abbrev pub questions : {P Q : Type 0} → Meaning P → Meaning Q → List (Question JointFault)
questions a b =
    ask (nat_le (a.size * b.size) 4096) TooManyStates ∷
    (ask (nat_le (longest a * longest b) 32768) ListsTooLong ∷ [])

-- the joint of two maps goes as far as they do: nothing is cut off
pub record Uncapped {P Q : Type 0} (a : Meaning P) (b : Meaning Q) : Type 0 where
  pub size : (joint None a b).size ≡ (plain a b).size
  pub start : (s : ℕ) → (joint None a b).start s ≡ (plain a b).start s
  pub look : (s : ℕ) → (joint None a b).look s ≡ (plain a b).look s
  pub list : (s : ℕ) → (joint None a b).list s ≡ (plain a b).list s

-- at the number of each pair of states, the joint has what the two have there
pub record Numbered {P Q : Type 0} (a : Meaning P) (b : Meaning Q) : Type 0 where
  pub start : (i j : ℕ) → i < a.size → j < b.size → (plain a b).start (i * b.size + j) ≡ (a.start i && b.start j)
  pub look : (i j : ℕ) → i < a.size → j < b.size → (plain a b).look (i * b.size + j) ≡ joined_look (a.look i) (b.look j)
  pub list : (i j : ℕ) → i < a.size → j < b.size → (plain a b).list (i * b.size + j) ≡ pairs b.size (a.list i) (b.list j)
