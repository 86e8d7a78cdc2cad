-- Rounds at one state: what its entry says, and how its length is found. Assumes nothing.
use Rattle.std.proofs.Common.{◌≡◌, ℕ, ◌+◌, ◌<◌, ◌≤◌, ◌⊎◌, List, [], ◌∷◌, length, refl, subst, inl, inr, ⊎_elim, arith}
use Rattle.std.proofs.lemmas.Bool.{cases_lt}
use Rattle.stl.specs.Structures.{Structure, Move, WellFormed}
use Rattle.stl.specs.Until.{Reaches, Length}
use Rattle.stl.proofs.Shortest.{at_once, move_first, move_later, one_length, length_zero}
use Rattle.lengths.specs.Rounds.{Known}

module _ {k : Structure} {A B : ℕ → Type 0} where
  -- an entry d is the length d, in any round from d on
  pub known_length : (d e s w : ℕ) → d < 4294967295 → Known k A B e s w → w ≡ d → Length k A B s d
  known_length d e s w h (inl x) q = subst (Length k A B s) q x.1
  known_length d e s w h (inr x) q = absurd (omega (arith, x.0))

  -- and the length d is an entry d
  pub length_known : (d e s w : ℕ) → d ≤ e → Known k A B e s w → Length k A B s d → w ≡ d
  length_known d e s w h (inl x) l = one_length k A B s w d x.1 l
  length_known d e s w h (inr x) l = absurd (omega (arith, l.2, x.1 l.0 l.1.reaches))

  -- a state that has no length yet, in A, with a move to a state of length d
  pub next_length : (d s t : ℕ) → ((rest : List ℕ) → Reaches k A B s rest → d < length rest) → A s → Move k s t → Length k A B t d → Length k A B s (d + 1)
  next_length d s t longer a m l = (
    t ∷ l.0,
    record {
      reaches = move_first k A B s t l.0 (inl a) m l.1.reaches;
      least = λ o r. omega (arith, l.2, longer o r);
    },
    omega (arith, l.2),
  )

  -- without one, every run is longer by one still
  pub still_longer : WellFormed k → (d s : ℕ) → s < k.size → ((rest : List ℕ) → Reaches k A B s rest → d < length rest) → (A s → (t : ℕ) → Move k s t → Length k A B t d → ⊥) → ((t : ℕ) → t < k.size → ((n : ℕ) × (n ≤ d) × Length k A B t n) ⊎ ((rest : List ℕ) → Reaches k A B t rest → d < length rest)) → (rest : List ℕ) → Reaches k A B s rest → d + 1 < length rest
  still_longer formed d s h longer off all [] r = absurd (omega (arith, longer [] r))
  still_longer formed d s h longer off all (t ∷ rest) r =
      let m = r.run.0 in
      let later = move_later k A B s t rest r in
      ⊎_elim
      (λ x. ⊎_elim
      (λ l. absurd (omega (arith, x.2.2, longer (t ∷ x.2.0) (move_first k A B s t x.2.0 r.keeps.0 m x.2.1.reaches))))
      (λ l. absurd (off
      (⊎_elim (λ a. a) (λ b. absurd (omega (arith, longer [] (at_once k A B s b)))) r.keeps.0)
      t m (let e : x.0 ≡ d = omega (arith, x.1) in subst (Length k A B t) e x.2)))
      (cases_lt x.0 d))
      (λ x. omega (arith, x rest later))
      (all t (formed.targets s t h m))
