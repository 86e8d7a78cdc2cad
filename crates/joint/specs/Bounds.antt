-- The joint of two maps keeps to the bounds of all maps. This stands beside the definitions since each joint map
-- carries it. Assumes nothing.
use Rattle.std.specs.Prelude.{◌≡◌, ℕ, zero, suc, ◌+◌, ◌-◌, ◌*◌, ◌/◌, ◌%◌, ◌<◌, ◌≤◌, true, cond, List, [], ◌∷◌, ◌++◌, map, length, take, is_some, Some, None, Option, nat_le, nat_lt, slice_index, refl}
use Rattle.std.proofs.Common.{⊎_elim, sym, ap, subst, ◌∙◌, mul_comm, mul-zero, arith}
use Rattle.std.proofs.lemmas.Nat.{mul-add-lt, div_below, mod_below}
use Rattle.std.proofs.lemmas.List.{length-take, length-map, length-append, get_or-take, get_or-map, get_or_append_left, get_or-append_right}
use Rattle.std.proofs.lemmas.Bool.{and_parts, leb-true, cond-true, cond-false, lt-ltb, le-ltb, ltb-true, cases_lt, cases_Bool}
use Rattle.map.specs.Meaning.{Meaning, Bounded}
use Rattle.joint.specs.Pairs.{pairs, joined_look, paired_look, paired_list, joint_size, joint}
use Rattle.joint.specs.declared.fault.JointFault.{JointFault}

-- there are at most 4,096 states
pub size_few : (fault : Option JointFault) (m n : ℕ) → joint_size fault m n ≤ 4096
size_few None m n =
    ⊎_elim
    (λ e. subst (λ k. k ≤ 4096) (sym (cond-true (nat_le (m * n) 4096) (m * n) 0 e)) (leb-true (m * n) 4096 e))
    (λ e. subst (λ k. k ≤ 4096) (sym (cond-false (nat_le (m * n) 4096) (m * n) 0 e)) (omega arith))
    (cases_Bool (nat_le (m * n) 4096))
size_few (Some f) m n = omega arith

-- where there is a state, there is one for each pair
pub size_whole : (fault : Option JointFault) (m n s : ℕ) → s < joint_size fault m n → joint_size fault m n ≡ m * n
size_whole None m n s h =
    ⊎_elim
    (λ e. cond-true (nat_le (m * n) 4096) (m * n) 0 e)
    (λ e. absurd (omega (arith, cond-false (nat_le (m * n) 4096) (m * n) 0 e)))
    (cases_Bool (nat_le (m * n) 4096))
size_whole (Some f) m n s h = absurd (omega arith)

-- a product that is not 0 has no factor 0 on the right
pub right_factor : (m n s : ℕ) → s < m * n → 0 < n
right_factor m zero s h = absurd (omega (arith, mul-zero m))
right_factor m (suc n) s h = omega arith

-- the parts of a state are states
pub record Parts (fault : Option JointFault) (m n s : ℕ) : Type 0 where
  pub whole : joint_size fault m n ≡ m * n
  pub sized : 0 < n
  pub left : s / n < m
  pub right : s % n < n

-- and so they are for each state that is there
pub parts : (fault : Option JointFault) (m n s : ℕ) → s < joint_size fault m n → Parts fault m n s
parts fault m n s h =
    let w = size_whole fault m n s h in
    let z = right_factor m n s (omega arith) in
    record { whole = w; sized = z; left = div_below s n m z (omega arith); right = mod_below s n z }

-- pairs of states are states
pub pairs_below : (m n : ℕ) (xs ys : List ℕ) → ((i : ℕ) → i < length xs → slice_index xs i < m) → ((j : ℕ) → j < length ys → slice_index ys j < n) → (k : ℕ) → k < length (pairs n xs ys) → slice_index (pairs n xs ys) k < m * n
pairs_below m n [] ys p q k h = absurd (omega arith)
pairs_below m n (x ∷ xs) ys p q k h =
    let row = map (λ y. x * n + y) ys in
    let long : length row ≡ length ys = length-map ys (λ y. x * n + y) in
    let all : length (row ++ pairs n xs ys) ≡ length row + length (pairs n xs ys) = length-append row (pairs n xs ys) in
    ⊎_elim
    (λ l.
    let e = get_or_append_left row (pairs n xs ys) 0 k l ∙ get_or-map (λ y. x * n + y) ys k 0 0 (omega arith) in
    let b = mul-add-lt x n (slice_index ys k) m (p 0 (omega arith)) (q k (omega arith)) in
    omega (arith, e, b, mul_comm m n))
    (λ l.
    let e = get_or-append_right row (pairs n xs ys) (length row) k 0 refl l in
    let b = pairs_below m n xs ys (λ i g. p (suc i) (omega arith)) q (k - length row) (omega arith) in
    omega (arith, e, b))
    (cases_lt k (length row))

-- two looks that are there make one
joined_there : {P Q : Type 0} (x : Option P) (y : Option Q) → is_some x ≡ true → is_some y ≡ true → is_some (joined_look x y) ≡ true
joined_there None y p q = p
joined_there (Some x) None p q = q
joined_there (Some x) (Some y) p q = refl

module _ {P Q : Type 0} (fault : Option JointFault) (a : Meaning P) (b : Meaning Q) where
  -- how many states there are
  abbrev size : ℕ
  size = joint_size fault a.size b.size

  -- what holds of what each state has, and of what stands in for it past the states, holds everywhere
  by_state : {X : Type 0} (C : X → Type 0) (s : ℕ) (x y : X) → (s < size → C x) → (size ≤ s → C y) → C (cond (nat_lt s size) x y)
  by_state C s x y here past =
      ⊎_elim
      (λ l. subst C (sym (cond-true (nat_lt s size) x y (lt-ltb _ _ l))) (here l))
      (λ l. subst C (sym (cond-false (nat_lt s size) x y (le-ltb _ _ l))) (past l))
      (cases_lt s size)

  -- targets are states
  target_below : Bounded a → Bounded b → (s k : ℕ) → s < size → k < length (take 32768 (paired_list a b s)) → slice_index (take 32768 (paired_list a b s)) k < size
  target_below p q s k l h =
      let t = length-take 32768 (paired_list a b s) in
      let w = pairs_below a.size b.size (a.list (s / b.size)) (b.list (s % b.size)) (p.targets_fit (s / b.size)) (q.targets_fit (s % b.size)) k (omega (arith, t)) in
      omega (arith, get_or-take 32768 (paired_list a b s) k 0 (omega (arith, t)), w, size_whole fault a.size b.size s l)

  -- a state has a look
  look_there : Bounded a → Bounded b → (s : ℕ) → s < size → is_some (paired_look a b s) ≡ true
  look_there p q s l =
      let at = parts fault a.size b.size s l in
      joined_there (a.look (s / b.size)) (b.look (s % b.size)) (p.shown _ ∙ lt-ltb _ _ at.left) (q.shown _ ∙ lt-ltb _ _ at.right)

  -- the joint keeps to each bound, where the two maps do
  pub bounded : Bounded a → Bounded b → Bounded (joint fault a b)
  bounded p q = record {
    size_fits = size_few fault a.size b.size;
    list_fits = λ s. by_state (λ xs. length xs ≤ 32768) s _ _ (λ l. omega (arith, length-take 32768 (paired_list a b s))) (λ l. omega arith);
    targets_fit = λ s k. by_state (λ xs. k < length xs → slice_index xs k < size) s _ _ (λ l h. target_below p q s k l h) (λ l h. absurd (omega arith));
    starts_fit = λ s h. ltb-true _ _ (and_parts (nat_lt s size) _ h).0;
    shown = λ s. by_state (λ o. is_some o ≡ nat_lt s size) s _ _ (λ l. look_there p q s l ∙ sym (lt-ltb _ _ l)) (λ l. sym (le-ltb _ _ l));
    no_list = λ s h. ap length (cond-false (nat_lt s size) (take 32768 (paired_list a b s)) [] (le-ltb _ _ h));
  }
