-- The entries of a joint list. Assumes nothing.
use Rattle.std.proofs.Common.{◌≡◌, ℕ, zero, suc, ◌+◌, ◌-◌, ◌*◌, ◌/◌, ◌%◌, ◌<◌, ◌≤◌, min, ltb, List, [], ◌∷◌, ◌++◌, map, length, get_or, take, Some, Option, sym, ap, ◌∙◌, subst, ap₂, ⊎_elim, suc-mul, zero-mul, arith}
use Rattle.std.proofs.lemmas.Nat.{div_below, mod_below, div-add-mod'}
use Rattle.std.proofs.lemmas.List.{length-take, length-map, length-append, get_or-take, get_or-map, get_or_append_left, get_or-append_right}
use Rattle.std.proofs.lemmas.Option.{slice_get-get_or}
use Rattle.std.proofs.lemmas.Bool.{cond-true, cond-false, lt-ltb, le-ltb, cases_lt}
use Rattle.std.specs.List.{slice_get}
use Rattle.map.specs.Meaning.{Meaning, Bounded}
use Rattle.joint.specs.Bounds.{parts, right_factor}
use Rattle.joint.specs.Pairs.{pairs, paired_list, joint_size, joint}
use Rattle.joint.specs.declared.fault.JointFault.{JointFault}

-- there are as many pairs as the product says
pub length_pairs : (n : ℕ) (xs ys : List ℕ) → length (pairs n xs ys) ≡ length xs * length ys
length_pairs n [] ys = sym (zero-mul (length ys))
length_pairs n (x ∷ xs) ys =
    length-append (map (λ y. x * n + y) ys) (pairs n xs ys) ∙ omega (arith, length-map ys (λ y. x * n + y), length_pairs n xs ys, suc-mul (length xs) (length ys))

-- the pair of entry i and entry j stands at i times the second length, and j
pub get_or-pairs : (n : ℕ) (xs ys : List ℕ) (i j : ℕ) → i < length xs → j < length ys → get_or (pairs n xs ys) (i * length ys + j) 0 ≡ get_or xs i 0 * n + get_or ys j 0
get_or-pairs n [] ys i j h g = absurd (omega arith)
get_or-pairs n (x ∷ xs) ys zero j h g =
    let row = map (λ y. x * n + y) ys in
    let long = length-map ys (λ y. x * n + y) in
    let z : 0 * length ys + j ≡ j = omega (arith, zero-mul (length ys)) in
    ap (λ k. get_or (row ++ pairs n xs ys) k 0) z ∙ get_or_append_left row (pairs n xs ys) 0 j (omega (arith, long)) ∙ get_or-map (λ y. x * n + y) ys j 0 0 g
get_or-pairs n (x ∷ xs) ys (suc i) j h g =
    let row = map (λ y. x * n + y) ys in
    let long = length-map ys (λ y. x * n + y) in
    let m = suc-mul i (length ys) in
    let z : suc i * length ys + j - length ys ≡ i * length ys + j = omega (arith, m) in
    get_or-append_right row (pairs n xs ys) (length ys) (suc i * length ys + j) 0 long (omega (arith, m)) ∙ ap (λ k. get_or (pairs n xs ys) k 0) z ∙ get_or-pairs n xs ys i j (omega arith) g

module _ {P Q : Type 0} (fault : Option JointFault) (a : Meaning P) (b : Meaning Q) where
  -- how many states there are
  abbrev size : ℕ
  size = joint_size fault a.size b.size

  -- the list of a state that is there
  list_there : (s : ℕ) → s < size → (joint fault a b).list s ≡ take 32768 (paired_list a b s)
  list_there s l = cond-true (ltb s size) (take 32768 (paired_list a b s)) [] (lt-ltb _ _ l)

  -- how long it is
  pub list_long : (s : ℕ) → s < size → length ((joint fault a b).list s) ≡ min 32768 (length (a.list (s / b.size)) * length (b.list (s % b.size)))
  list_long s l =
      ap length (list_there s l) ∙ length-take 32768 _ ∙ ap (min 32768) (length_pairs b.size (a.list (s / b.size)) (b.list (s % b.size)))

  -- only a state that is there has an entry
  pub listed_there : (s k : ℕ) → k < length ((joint fault a b).list s) → s < size
  listed_there s k h =
      ⊎_elim
      (λ l. l)
      (λ l. absurd (omega (arith, ap length (cond-false (ltb s size) (take 32768 (paired_list a b s)) [] (le-ltb _ _ l)))))
      (cases_lt s size)

  -- entry k of the list of s pairs entry k / w of the one list with entry k % w of the other, of w entries; n is the
  -- size of the second map
  pub record Entry (s k n w : ℕ) : Type 0 where
    pub width : 0 < w
    pub sized : 0 < n
    pub left : slice_get (a.list (s / n)) (k / w) ≡ Some (get_or (a.list (s / n)) (k / w) 0)
    pub right : slice_get (b.list (s % n)) (k % w) ≡ Some (get_or (b.list (s % n)) (k % w) 0)
    pub left_few : get_or (a.list (s / n)) (k / w) 0 ≤ 4096
    pub right_few : get_or (b.list (s % n)) (k % w) 0 ≤ 4096
    pub value : slice_get ((joint fault a b).list s) k ≡ Some (get_or (a.list (s / n)) (k / w) 0 * n + get_or (b.list (s % n)) (k % w) 0)

  -- each entry of a joint list is such a pair
  entry_in : Bounded a → Bounded b → (s k : ℕ) → k < length ((joint fault a b).list s) → Entry s k b.size (length (b.list (s % b.size)))
  entry_in p q s k h =
      let xs = a.list (s / b.size) in
      let ys = b.list (s % b.size) in
      let l = listed_there s k h in
      let long = list_long s l in
      let more : k < length xs * length ys = omega (arith, long) in
      let pos = right_factor (length xs) (length ys) k more in
      let i = div_below k (length ys) (length xs) pos more in
      let j = mod_below k (length ys) pos in
      let few : k < 32768 = omega (arith, long) in
      record {
        width = pos;
        sized = (parts fault a.size b.size s l).sized;
        left = slice_get-get_or xs (k / length ys) 0 i;
        right = slice_get-get_or ys (k % length ys) 0 j;
        left_few = omega (arith, p.targets_fit _ _ i, p.size_fits);
        right_few = omega (arith, q.targets_fit _ _ j, q.size_fits);
        value = slice_get-get_or ((joint fault a b).list s) k 0 h ∙ ap Some (ap (λ t. get_or t k 0) (list_there s l) ∙ get_or-take 32768 (pairs b.size xs ys) k 0 few ∙ ap (λ n. get_or (pairs b.size xs ys) n 0) (sym (div-add-mod' k (length ys))) ∙ get_or-pairs b.size xs ys (k / length ys) (k % length ys) i j);
      }

  -- the same of what was read: the second map's size, the length of its list, and the length of the joint list
  pub entry_at : Bounded a → Bounded b → (s k n w long : ℕ) → n ≡ b.size → w ≡ length (b.list (s % n)) → long ≡ length ((joint fault a b).list s) → k < long → Entry s k n w
  entry_at p q s k n w long e f g h =
      subst (λ v. Entry s k n v) (sym f) (subst (λ v. Entry s k v (length (b.list (s % v)))) (sym e) (entry_in p q s k (subst (λ v. k < v) g h)))

  -- what was read of each list
  pub record Reading (s k n i j : ℕ) : Type 0 where
    pub left_few : i ≤ 4096
    pub right_few : j ≤ 4096
    pub value : Some (i * n + j) ≡ slice_get ((joint fault a b).list s) k

  -- entries that were read in both lists make the joint list's entry
  pub reading_at : (s k n w : ℕ) → Entry s k n w → (i j : ℕ) → Some i ≡ slice_get (a.list (s / n)) (k / w) → Some j ≡ slice_get (b.list (s % n)) (k % w) → Reading s k n i j
  reading_at s k n w t i j e f =
      let l : i ≡ get_or (a.list (s / n)) (k / w) 0 = cc t.left in
      let r : j ≡ get_or (b.list (s % n)) (k % w) 0 = cc t.right in
      record { left_few = omega (arith, t.left_few); right_few = omega (arith, t.right_few); value = ap₂ (λ x y. Some (x * n + y)) l r ∙ sym t.value }
