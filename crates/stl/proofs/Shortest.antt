-- Shortest runs: a move before one, the rest of one, and how long one can be. Assumes nothing.
use Rattle.std.proofs.Common.{◌≡◌, ℕ, zero, suc, ◌-◌, ◌<◌, ◌≤◌, ◌⊎◌, List, [], ◌∷◌, length, get_or, refl, subst, inr, ⊎_elim, arith}
use Rattle.std.proofs.lemmas.Bool.{cases_lt}
use Rattle.stl.specs.Runs.{Run}
use Rattle.stl.specs.Structures.{Structure, Move, WellFormed}
use Rattle.stl.specs.Until.{Reaches, Shortest, Length, Greatest}
use Rattle.stl.proofs.Pigeons.{pigeons}

module _ (k : Structure) (A B : ℕ → Type 0) where
  -- a state of B is a run by itself
  pub at_once : (s : ℕ) → B s → Reaches k A B s []
  at_once s b = record { run = tt; ends = b; keeps = inr b }

  -- the first state of a run
  pub first : (s : ℕ) (rest : List ℕ) → Reaches k A B s rest → A s ⊎ B s
  first s [] r = r.keeps
  first s (t ∷ rest) r = r.keeps.0

  -- a move before a run
  pub move_first : (s t : ℕ) (rest : List ℕ) → A s ⊎ B s → Move k s t → Reaches k A B t rest → Reaches k A B s (t ∷ rest)
  move_first s t rest h m r = record { run = (m, r.run); ends = r.ends; keeps = (h, r.keeps) }

  -- a run without its first move
  pub move_later : (s t : ℕ) (rest : List ℕ) → Reaches k A B s (t ∷ rest) → Reaches k A B t rest
  move_later s t rest r = record { run = r.run.1; ends = r.ends; keeps = r.keeps.1 }

  -- the rest of a shortest run is shortest
  pub rest_shortest : (s t : ℕ) (rest : List ℕ) → Shortest k A B s (t ∷ rest) → Shortest k A B t rest
  rest_shortest s t rest p = record {
    reaches = move_later s t rest p.reaches;
    least = λ o r. omega (arith, p.least (t ∷ o) (move_first s t o p.reaches.keeps.0 p.reaches.run.0 r));
  }

  -- a state has one shortest length
  pub one_length : (s m n : ℕ) → Length k A B s m → Length k A B s n → m ≡ n
  one_length s m n x y = omega (arith, x.2, y.2, x.1.least y.0 y.1.reaches, y.1.least x.0 x.1.reaches)

  -- no run is shorter
  pub least_length : (s n : ℕ) (o : List ℕ) → Length k A B s n → Reaches k A B s o → n ≤ length o
  least_length s n o x r = omega (arith, x.2, x.1.least o r)

  -- a state in B has the length 0
  pub length_zero : (s : ℕ) → B s → Length k A B s 0
  length_zero s b = ([], record { reaches = at_once s b; least = λ o r. omega arith }, refl)

  -- a state of a length above 0 is in A
  pub in_A : (s n : ℕ) → Length k A B s n → 0 < n → A s
  in_A s n x h = ⊎_elim (λ a. a) (λ b. absurd (omega (arith, least_length s n [] x (at_once s b)))) (first s x.0 x.1.reaches)

  -- the states of a shortest run have the lengths down to 0
  falling : (s : ℕ) (rest : List ℕ) → Shortest k A B s rest → (i : ℕ) → i ≤ length rest → Length k A B (get_or (s ∷ rest) i 0) (length rest - i)
  falling s [] p zero h = ([], p, refl)
  falling s [] p (suc i) h = absurd (omega arith)
  falling s (t ∷ rest) p zero h = (t ∷ rest, p, omega arith)
  falling s (t ∷ rest) p (suc i) h =
      let l : length rest - i ≡ suc (length rest) - suc i = omega arith in
      subst (λ n. Length k A B (get_or (t ∷ rest) i 0) n) l (falling t rest (rest_shortest s t rest p) i (omega arith))

  -- the states of a run are states of the structure
  states : WellFormed k → (s : ℕ) (rest : List ℕ) → s < k.size → Run k s rest → (i : ℕ) → i ≤ length rest → get_or (s ∷ rest) i 0 < k.size
  states formed s rest b r zero h = b
  states formed s [] b r (suc i) h = absurd (omega arith)
  states formed s (t ∷ rest) b r (suc i) h = states formed t rest (formed.targets s t b r.0) r.1 i (omega arith)

  -- a shortest run meets no state twice, so it has fewer moves than there are states
  pub below_size : WellFormed k → (s n : ℕ) → s < k.size → Length k A B s n → n < k.size
  below_size formed s n b x =
      let rest = x.0 in
      let f : ℕ → ℕ = λ i. get_or (s ∷ rest) i 0 in
      ⊎_elim (λ l. l)
      (λ l. absurd (pigeons k.size f
      (λ i h. states formed s rest b x.1.reaches.run i (omega (arith, x.2)))
      (λ i j h m e.
      let p = falling s rest x.1 i (omega (arith, x.2)) in
      let q = falling s rest x.1 j (omega (arith, x.2)) in
      let same = one_length (f j) (length rest - i) (length rest - j) (subst (λ t. Length k A B t (length rest - i)) e p) q in
      omega (arith, x.2, same))))
      (cases_lt n k.size)

  -- the greatest of the shortest lengths is below the number of states
  pub greatest_below : WellFormed k → (n : ℕ) → Greatest k A B n → 0 < k.size → n < k.size
  greatest_below formed n p z = ⊎_elim (λ h. let x = p.met h in below_size formed x.0 n x.1 x.2) (λ h. omega arith) (cases_lt 0 n)
