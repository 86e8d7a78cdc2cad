-- What tables have that are not refused. These facts stand beside the definitions since each listed map carries them.
-- Assumes nothing.
use Rattle.std.specs.Prelude.{◌≡◌, ℕ, zero, suc, ◌+◌, ◌-◌, ◌<◌, ◌≤◌, true, not, ◌&&◌, ◌||◌, List, length, None, ◌==◌, nat_le, nat_lt, slice_index}
use Rattle.std.proofs.Common.{⊎_elim, subst, arith}
use Rattle.std.proofs.lemmas.Bool.{and_parts, or_cases, not-true, ltb-true, leb-true, eqb-true, eqb-false}
use Rattle.map.specs.Questions.{first_no}
use Rattle.map.proofs.Asked.{answered}
use Rattle.listed.specs.Tables.{Tables, right_first, questions}

-- what each entry of right firsts has
pub record RightFirst (firsts : List ℕ) (count i : ℕ) : Type 0 where
  pub begins : i ≡ 0 → slice_index firsts i ≡ 0
  pub climbs : 0 < i → slice_index firsts (i - 1) ≤ slice_index firsts i
  pub ends : length firsts ≤ i + 1 → slice_index firsts i ≡ count
  pub few : length firsts ≤ i + 1 → count ≤ 32768

pub right_parts : (firsts : List ℕ) (count i : ℕ) → right_first firsts count i ≡ true → RightFirst firsts count i
right_parts firsts count i e =
    let a = and_parts (not (i == 0) || slice_index firsts i == 0) _ e in
    let b = and_parts (i == 0 || nat_le (slice_index firsts (i - 1)) (slice_index firsts i)) _ a.1 in
    let last : length firsts ≤ i + 1 → (slice_index firsts i == count && nat_le count 32768) ≡ true = λ h. ⊎_elim (λ l. absurd (omega (arith, ltb-true _ _ l))) (λ l. l) (or_cases (nat_lt (i + 1) (length firsts)) _ b.1) in
    record {
      begins = λ z. ⊎_elim (λ n. absurd (eqb-false i 0 (not-true _ n) z)) (λ l. eqb-true _ _ l) (or_cases (not (i == 0)) _ a.0);
      climbs = λ z. ⊎_elim (λ n. absurd (omega (arith, eqb-true i 0 n))) (λ l. leb-true _ _ l) (or_cases (i == 0) _ b.0);
      ends = λ h. eqb-true _ _ (and_parts _ _ (last h)).0;
      few = λ h. leb-true _ _ (and_parts (slice_index firsts i == count) _ (last h)).1;
    }

pub record Sound {L : Type 0} (t : Tables L) : Type 0 where
  pub small : length t.looks ≤ 4096
  pub starts_long : length t.starts ≡ length t.looks
  pub firsts_long : length t.firsts ≡ length t.looks + 1
  pub right : (i : ℕ) → i < length t.firsts → RightFirst t.firsts (length t.targets) i
  pub below : (k : ℕ) → k < length t.targets → slice_index t.targets k < length t.looks

module _ {L : Type 0} {t : Tables L} where
  pub sound : first_no (questions t) ≡ None → Sound t
  sound e =
      let all = answered (questions t) e in
      let long = and_parts (length t.starts == length t.looks) _ all.1.0 in
      record {
        small = leb-true _ _ all.0;
        starts_long = eqb-true _ _ long.0;
        firsts_long = eqb-true _ _ long.1;
        right = λ i h. right_parts _ _ i (all.1.1.0 i h);
        below = λ k h. ltb-true _ _ (all.1.1.1.0 k h);
      }

  -- there are at most 32,768 targets
  pub few : Sound t → length t.targets ≤ 32768
  few p = (p.right (length t.looks) (omega (arith, p.firsts_long))).few (omega (arith, p.firsts_long))

  -- firsts never fall
  pub climb : Sound t → (s : ℕ) → s < length t.looks → slice_index t.firsts s ≤ slice_index t.firsts (s + 1)
  climb p s h =
      let q : s + 1 - 1 ≡ s = omega arith in
      subst (λ i. slice_index t.firsts i ≤ slice_index t.firsts (s + 1)) q ((p.right (s + 1) (omega (arith, p.firsts_long))).climbs (omega arith))

  within_by : Sound t → (d s : ℕ) → s + d ≡ length t.looks → slice_index t.firsts s ≤ length t.targets
  within_by p zero s e = omega (arith, (p.right s (omega (arith, p.firsts_long))).ends (omega (arith, p.firsts_long)))
  within_by p (suc d) s e = omega (arith, climb p s (omega arith), within_by p d (s + 1) (omega arith))

  -- no first is past the targets
  pub within : Sound t → (s : ℕ) → s ≤ length t.looks → slice_index t.firsts s ≤ length t.targets
  within p s h = within_by p (length t.looks - s) s (omega arith)
