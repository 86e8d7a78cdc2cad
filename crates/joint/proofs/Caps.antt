-- A joint map that is made reaches no cap. Assumes nothing.
use Rattle.std.proofs.Common.{◌≡◌, ℕ, ◌*◌, ◌/◌, ◌%◌, ◌<◌, ◌≤◌, cond, ◌&&◌, ltb, leb, [], length, take, None, sym, ap, ◌∙◌, subst, ⊎_elim, arith}
use Rattle.std.proofs.lemmas.Nat.{mul-le}
use Rattle.std.proofs.lemmas.List.{take_all}
use Rattle.std.proofs.lemmas.Bool.{cond-true, cond-false, leb-true, le-ltb, cases_lt}
use Rattle.map.proofs.Asked.{answered}
use Rattle.map.proofs.Count.{above, met}
use Rattle.map.specs.Counts.{longest}
use Rattle.map.specs.Meaning.{Meaning, Bounded}
use Rattle.map.specs.Questions.{first_no}
use Rattle.joint.specs.Bounds.{parts}
use Rattle.joint.specs.Pairs.{paired_start, paired_look, paired_list, joint_size, questions, Uncapped}
use Rattle.joint.proofs.Lists.{length_pairs}

-- no list is longer than a map may have
pub longest_fits : {L : Type 0} (m : Meaning L) → Bounded m → longest m ≤ 32768
longest_fits m b =
    ⊎_elim
    (λ l. let p = met (λ s. length (m.list s)) m.size l in omega (arith, p.2, b.list_fits p.0))
    (λ l. omega arith)
    (cases_lt 0 (longest m))

module _ {P Q : Type 0} (a : Meaning P) (b : Meaning Q) where
  -- each paired list is at most as long as the product of the longest
  paired_long : (s : ℕ) → s / b.size < a.size → s % b.size < b.size → length (paired_list a b s) ≤ longest a * longest b
  paired_long s l r =
      let u = above (λ i. length (a.list i)) a.size (s / b.size) l in
      let v = above (λ j. length (b.list j)) b.size (s % b.size) r in
      omega (arith, length_pairs b.size (a.list (s / b.size)) (b.list (s % b.size)), mul-le _ _ _ _ u v)

  -- two maps that are not refused are joined whole
  pub uncapped : first_no (questions a b) ≡ None → Uncapped a b
  uncapped e =
      let all = answered (questions a b) e in
      let whole : joint_size None a.size b.size ≡ a.size * b.size = cond-true (leb (a.size * b.size) 4096) (a.size * b.size) 0 all.0 in
      let few : longest a * longest b ≤ 32768 = leb-true _ _ all.1.0 in
      record {
        size = whole;
        start = λ s. ap (λ n. ltb s n && paired_start a b s) whole;
        look = λ s. ap (λ n. cond (ltb s n) (paired_look a b s) None) whole;
        list = λ s. ap (λ n. cond (ltb s n) (take 32768 (paired_list a b s)) []) whole ∙ ⊎_elim
            (λ l.
            let at = parts None a.size b.size s (subst (λ k. s < k) (sym whole) l) in
            let long = paired_long s at.left at.right in
            ap (λ xs. cond (ltb s (a.size * b.size)) xs []) (take_all 32768 (paired_list a b s) (omega arith)))
            (λ l. cond-false (ltb s (a.size * b.size)) (take 32768 (paired_list a b s)) [] (le-ltb _ _ l) ∙ sym (cond-false (ltb s (a.size * b.size)) (paired_list a b s) [] (le-ltb _ _ l)))
            (cases_lt s (a.size * b.size));
      }
