-- All rounds: from the first to one that gives nothing. Assumes nothing.
use Rattle.std.proofs.Common.{◌≡◌, ℕ, ◌+◌, ◌<◌, ◌≤◌, true, false, ◌⊎◌, List, [], ◌∷◌, length, get_or, set, sym, refl, ◌∙◌, subst, inl, inr, ⊎_elim, arith}
use Rattle.std.proofs.lemmas.List.{get_or-set_same, get_or-set_other, length-set}
use Rattle.std.proofs.lemmas.Bool.{cases_lt, cases_eq}
use Rattle.stl.specs.Structures.{Structure, WellFormed}
use Rattle.stl.specs.Until.{Reaches, Length, Greatest}
use Rattle.stl.proofs.Shortest.{move_first, move_later, one_length, length_zero, below_size}
use Rattle.lengths.specs.Rounds.{Known, Round, Begun, Swept}
use Rattle.lengths.specs.Tables.{Measured, Filled}

-- d rounds have each given a length, and the table is that of round d
pub record Running (k : Structure) (A B : ℕ → Type 0) (d : ℕ) (before work : List ℕ) : Type 0 where
  pub round : Round k A B d work
  pub sized : length work ≡ length before
  pub past : (s : ℕ) → k.size ≤ s → get_or work s 0 ≡ get_or before s 0
  pub met : 0 < d → (s : ℕ) × (s < k.size) × Length k A B s d

module _ {k : Structure} {A B : ℕ → Type 0} where
  -- after a round that gives nothing each state that has a run has its length
  module _ (formed : WellFormed k) {d : ℕ} {before work : List ℕ} (sweep : Swept k A B d k.size before work false) where
    -- nothing got the length d + 1
    at_most : (s w : ℕ) → (w ≡ d + 1 → ⊥) → Known k A B (d + 1) s w → ((w ≤ d) × Length k A B s w) ⊎ ((w ≡ 4294967295) × ((rest : List ℕ) → Reaches k A B s rest → d + 1 < length rest))
    at_most s w ne (inl x) = inl (⊎_elim (λ e. absurd (ne e)) (λ (q : w ≡ d + 1 → ⊥). omega (arith, x.0)) (cases_eq w (d + 1)), x.1)
    at_most s w ne (inr x) = inr x

    -- the entry of a state: its length, up to d, or none
    settled : (s : ℕ) → s < k.size → ((get_or work s 0 ≤ d) × Length k A B s (get_or work s 0)) ⊎ ((get_or work s 0 ≡ 4294967295) × ((rest : List ℕ) → Reaches k A B s rest → d + 1 < length rest))
    settled s h = at_most s _ (sweep.none refl s h h) (sweep.done s h h)

    -- a state with a run has a length up to d: from the end of the run backwards
    has_length : (s : ℕ) (rest : List ℕ) → s < k.size → Reaches k A B s rest → (n : ℕ) × (n ≤ d) × Length k A B s n
    has_length s [] h r = (0, omega arith, length_zero k A B s r.ends)
    has_length s (t ∷ rest) h r =
        let m = r.run.0 in
        let l = has_length t rest (formed.targets s t h m) (move_later k A B s t rest r) in
        ⊎_elim
        (λ x. (get_or work s 0, x.0, x.1))
        (λ x. absurd (omega (arith, l.1, l.2.2, x.1 (t ∷ l.2.0) (move_first k A B s t l.2.0 r.keeps.0 m l.2.1.reaches))))
        (settled s h)

    -- so the entry measures the state
    measured : (s : ℕ) → s < k.size → Measured k A B s (get_or work s 0)
    measured s h = ⊎_elim
        (λ x. inr x.1)
        (λ x. inl (x.0, λ rest r. let l = has_length s rest h r in omega (arith, l.1, l.2.2, x.1 l.2.0 l.2.1.reaches)))
        (settled s h)

    -- and d is the greatest length
    greatest : (0 < d → (s : ℕ) × (s < k.size) × Length k A B s d) → Greatest k A B d
    greatest met = record {
      above = λ s m h x. let l = has_length s x.0 h x.1.reaches in omega (arith, l.1, one_length k A B s l.0 m l.2 x);
      met = met;
    }

  -- one round more
  pub running_more : {d : ℕ} {before work next : List ℕ} → Running k A B d before work → Swept k A B d k.size work next true → Running k A B (d + 1) before next
  running_more p q = record {
    round = λ s h. q.done s h h;
    sized = q.sized ∙ p.sized;
    past = λ s h. q.past s h ∙ p.past s h;
    met = λ h. q.some refl;
  }

  -- no more rounds give a length than there are states
  pub running_small : WellFormed k → {d : ℕ} {before work : List ℕ} → Running k A B d before work → d ≤ k.size
  running_small formed {d = d} p =
      ⊎_elim (λ h. let x = p.met h in omega (arith, below_size k A B formed x.0 d x.1 x.2)) (λ h. omega arith) (cases_lt 0 d)

  -- after a round that gave nothing the table is filled
  pub running_filled : WellFormed k → {d : ℕ} {first before work next : List ℕ} → Begun k A B k.size first before → Running k A B d before work → Swept k A B d k.size work next false → Filled k A B first next
  running_filled formed b p q = record {
    sized = q.sized ∙ p.sized ∙ b.sized;
    here = measured formed q;
    past = λ s h. q.past s h ∙ p.past s h ∙ b.past s h;
  }

  -- and the last round that gave one gave the greatest length
  pub running_greatest : WellFormed k → {d : ℕ} {before work next : List ℕ} → Running k A B d before work → Swept k A B d k.size work next false → Greatest k A B d
  running_greatest formed p q = greatest formed q p.met
