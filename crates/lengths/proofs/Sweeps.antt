-- One round: a sweep over the states, in one table. Assumes nothing.
use Rattle.std.proofs.Common.{◌≡◌, ℕ, ◌+◌, ◌<◌, ◌≤◌, Bool, true, false, ◌⊎◌, List, length, get_or, set, sym, refl, ap, ◌∙◌, subst, inl, inr, ⊎_elim, arith}
use Rattle.std.proofs.lemmas.List.{get_or-set_same, get_or-set_other, length-set}
use Rattle.std.proofs.lemmas.Bool.{cases_lt, cases_eq, true≢false, false≢true}
use Rattle.stl.specs.Structures.{Structure, WellFormed}
use Rattle.stl.specs.Until.{Reaches, Length}
use Rattle.stl.proofs.Shortest.{least_length}
use Rattle.lengths.specs.Rounds.{Known, Round, StepsTo, Due, Swept}
use Rattle.lengths.proofs.Known.{known_length, length_known, next_length, still_longer}

module _ {k : Structure} {A B : ℕ → Type 0} where
  -- the table is partly of round d + 1, partly of round d: in both parts an entry d says the same
  module _ (formed : WellFormed k) {d i : ℕ} {before work : List ℕ} {found : Bool} (small : d + 1 < 4294967295) (sweep : Swept k A B d i before work found) where
    -- the entry is one of round d + 1 or one of round d
    either : (t : ℕ) → t < k.size → Known k A B (d + 1) t (get_or work t 0) ⊎ Known k A B d t (get_or work t 0)
    either t h = ⊎_elim (λ l. inl (sweep.done t l h)) (λ l. inr (sweep.todo t l h)) (cases_lt t i)

    -- an entry d is the length d
    reads : (t : ℕ) → t < k.size → get_or work t 0 ≡ d → Length k A B t d
    reads t h e = ⊎_elim (λ x. known_length d (d + 1) t _ (omega arith) x e) (λ x. known_length d d t _ (omega arith) x e) (either t h)

    -- and the length d is an entry d
    shows : (t : ℕ) → t < k.size → Length k A B t d → get_or work t 0 ≡ d
    shows t h l = ⊎_elim (λ x. length_known d (d + 1) t _ (omega arith) x l) (λ x. length_known d d t _ (omega arith) x l) (either t h)

    -- a length up to d, or only longer runs
    from_known : (e t w : ℕ) → d ≤ e → Known k A B e t w → ((n : ℕ) × (n ≤ d) × Length k A B t n) ⊎ ((rest : List ℕ) → Reaches k A B t rest → d < length rest)
    from_known e t w h (inl x) =
        ⊎_elim (λ l. inr (λ rest r. omega (arith, least_length k A B t w rest x.1 r))) (λ l. inl (w, l, x.1)) (cases_lt d w)
    from_known e t w h (inr x) = inr (λ rest r. omega (arith, x.1 rest r))

    each : (t : ℕ) → t < k.size → ((n : ℕ) × (n ≤ d) × Length k A B t n) ⊎ ((rest : List ℕ) → Reaches k A B t rest → d < length rest)
    each t h = ⊎_elim (λ x. from_known (d + 1) t _ (omega arith) x) (λ x. from_known d t _ (omega arith) x) (either t h)

    -- a state that is not due, one round on
    one_more : i < k.size → (w : ℕ) → Known k A B d i w → w ≡ get_or work i 0 → (Due k A work d i → ⊥) → Known k A B (d + 1) i w
    one_more h w (inl x) e off = inl (omega (arith, x.0), x.1)
    one_more h w (inr x) e off = inr (x.0, still_longer formed d i h x.1 (λ a t m l. off (sym e ∙ x.0, a, (t, m, shows t (formed.targets i t h m) l))) each)

    -- nothing of round d has the entry d + 1
    not_yet : (s w : ℕ) → Known k A B d s w → w ≡ d + 1 → ⊥
    not_yet s w (inl x) e = omega (arith, x.0)
    not_yet s w (inr x) e = omega (arith, x.0)

    -- a state that is not in A, one round on
    off_more : (s w : ℕ) → s < k.size → (A s → ⊥) → Known k A B d s w → Known k A B (d + 1) s w
    off_more s w h off (inl x) = inl (omega (arith, x.0), x.1)
    off_more s w h off (inr x) = inr (x.0, still_longer formed d s h x.1 (λ a t m l. off a) each)

    -- no state from i on is in A: the sweep is done
    pub sweep_past : ((s : ℕ) → i ≤ s → s < k.size → A s → ⊥) → Swept k A B d k.size before work found
    sweep_past off = record {
      sized = sweep.sized;
      done = λ s l b. ⊎_elim (λ m. sweep.done s m b) (λ m. off_more s _ b (off s m b) (sweep.todo s m b)) (cases_lt s i);
      todo = λ s l b. absurd (omega arith);
      past = sweep.past;
      some = sweep.some;
      none = λ f s l b. ⊎_elim (λ m. sweep.none f s m b) (λ m. not_yet s _ (sweep.todo s m b)) (cases_lt s i);
    }

    -- state i is not due
    pub sweep_on : i < k.size → (Due k A work d i → ⊥) → Swept k A B d (i + 1) before work found
    sweep_on h off = record {
      sized = sweep.sized;
      done = λ s l b. ⊎_elim
          (λ e. subst (λ s. Known k A B (d + 1) s (get_or work s 0)) (sym e) (one_more h _ (sweep.todo i (omega arith) h) refl off))
          (λ ne. sweep.done s (omega arith) b)
          (cases_eq s i);
      todo = λ s l b. sweep.todo s (omega arith) b;
      past = sweep.past;
      some = sweep.some;
      none = λ f s l b. ⊎_elim
          (λ e q. not_yet i _ (sweep.todo i (omega arith) h) (ap (λ j. get_or work j 0) (sym e) ∙ q))
          (λ ne. sweep.none f s (omega arith) b)
          (cases_eq s i);
    }

    -- a state that is due has the length d + 1
    due_length : i < k.size → (w : ℕ) → Known k A B d i w → w ≡ 4294967295 → A i → StepsTo k work d i → Length k A B i (d + 1)
    due_length h w (inl x) e a st = absurd (omega (arith, x.0))
    due_length h w (inr x) e a st = next_length d i st.0 x.1 a st.1 (reads st.0 (formed.targets i st.0 h st.1) st.2)

    -- state i is due, and gets its length
    pub sweep_give : i < k.size → k.size ≤ length work → Due k A work d i → Swept k A B d (i + 1) before (set work i (d + 1)) true
    sweep_give h l due =
        let here = due_length h _ (sweep.todo i (omega arith) h) due.0 due.1 due.2 in
        let is = get_or-set_same work i (d + 1) 0 (omega arith) in
        record {
          sized = length-set work i (d + 1) ∙ sweep.sized;
          done = λ s m b. ⊎_elim
              (λ e. subst (λ s. Known k A B (d + 1) s (get_or (set work i (d + 1)) s 0)) (sym e) (subst (Known k A B (d + 1) i) (sym is) (inl (omega arith, here))))
              (λ ne. subst (Known k A B (d + 1) s) (sym (get_or-set_other work i s (d + 1) 0 ne)) (sweep.done s (omega arith) b))
              (cases_eq s i);
          todo = λ s m b. subst (Known k A B d s) (sym (get_or-set_other work i s (d + 1) 0 (λ e. omega arith))) (sweep.todo s (omega arith) b);
          past = λ s m. get_or-set_other work i s (d + 1) 0 (λ e. omega arith) ∙ sweep.past s m;
          some = λ f. (i, h, here);
          none = λ f. absurd (true≢false f);
        }

  -- where two ways meet, the values have new names
  pub swept_as : {d i : ℕ} {before x y : List ℕ} {f h : Bool} → x ≡ y → f ≡ h → Swept k A B d i before y h → Swept k A B d i before x f
  swept_as {d = d} {i = i} {before = before} e q p = subst (λ T. T) (sym (λ j. Swept k A B d i before (e j) (q j))) p
