-- A structure is a fold of itself: so what holds across folds holds from one valuation to another. Assumes nothing.
use Rattle.std.specs.Prelude.{◌↔◌}
use Rattle.std.proofs.Common.{◌≡◌, ℕ, ◌<◌, ◌≤◌, true, ltb, ◌⊎◌, List, map, get_or, refl, subst, inl, inr, map-id}
use Rattle.std.proofs.lemmas.Bool.{ltb-true, and_parts, cases_lt}
use Rattle.lengths.specs.Tables.{Measured, Filled}
use Rattle.stl.specs.Folds.{Folds}
use Rattle.stl.specs.Formulas.{Formula, top, Holds, build}
use Rattle.stl.specs.Rows.{named, Satisfied}
use Rattle.stl.specs.Structures.{Structure, WellFormed}
use Rattle.stl.specs.Until.{Shortest}
use Rattle.stl.specs.declared.row.Row.{Row}
use Rattle.stl.specs.declared.row.Row.TheVariants.{True, Sign, Not, Or, Next, Until}
use Rattle.stl.proofs.FoldLengths.{shortest_through, length_forth}
use Rattle.stl.proofs.Folds.{either, through, lifted}
use Rattle.calls.specs.Alike.{SameState, Alike}
use Rattle.calls.specs.declared.call.Call.{Call}
use Rattle.calls.specs.declared.call.Call.TheVariants as call

-- each state its own class
abbrev pub same : ℕ → ℕ
same s = s

module _ (k : Structure) where
  -- a fold
  pub itself : Folds k k same
  itself = record {
    within = λ s h. h;
    on = λ s n h. refl;
    forth = λ s t h m. m;
    back = λ s d h m. (d, m, refl);
    starts = λ s h e. e;
    started = λ d h e. (d, h, e, refl);
    onto = λ d h. (d, h, refl);
  }

  -- a state is itself, there or not
  state_itself : (s : ℕ) → SameState k k same s s
  state_itself s = go (cases_lt s k.size)
    where
      go : (s < k.size) ⊎ (k.size ≤ s) → SameState k k same s s
      go (inl h) = inl (h, refl)
      go (inr h) = inr (h, h)

  -- a call is like itself
  pub call_itself : (c : Call) → Alike k k same c c
  call_itself (call.Add row) = Alike.add row
  call_itself call.Mark = Alike.mark
  call_itself (call.Label s r) = Alike.label s s r (state_itself s)
  call_itself (call.Verdict r) = Alike.verdict r
  call_itself (call.Witness s r) = Alike.witness s s r (state_itself s)

  module _ (well : WellFormed k) where
    -- a shortest run by one valuation is one by another
    pub shortest_same : (A B C D : ℕ → Type 0) → ((s : ℕ) → s < k.size → A s ↔ C s) → ((s : ℕ) → s < k.size → B s ↔ D s) → (s : ℕ) (rest : List ℕ) → s < k.size → Shortest k A B s rest → Shortest k C D s rest
    shortest_same A B C D f g s rest h w = subst (Shortest k C D s) (map-id rest) (shortest_through k k same well itself A B C D f g s rest h w)

    -- so are the shortest lengths
    pub filled_same : (A B C D : ℕ → Type 0) → ((s : ℕ) → s < k.size → A s ↔ C s) → ((s : ℕ) → s < k.size → B s ↔ D s) → (before after : List ℕ) → Filled k A B before after → Filled k C D before after
    filled_same A B C D f g before after w = record { sized = w.sized; here = λ s h. go s (get_or after s 0) h (w.here s h); past = w.past }
      where
        go : (s n : ℕ) → s < k.size → Measured k A B s n → Measured k C D s n
        go s n h (inl e) = inl (e.0, (λ rest r. let over = lifted k k same well itself A B C D f g s rest h r in e.1 over.0 over.1))
        go s n h (inr l) = inr (length_forth k k same well itself A B C D f g s n h l)

    -- what the rows named say, as labels or as formulas, decides a row
    pub satisfied_built : (V : ℕ → ℕ → Type 0) (fs : List Formula) (q : ℕ) → ((r s : ℕ) → r < q → s < k.size → V r s ↔ Holds k (get_or fs r top) s) →
        (row : Row) (s : ℕ) → named row q ≡ true → s < k.size → Satisfied k V row s ↔ Holds k (build fs row) s
    satisfied_built V fs q f True s n h = ((λ x. x), (λ x. x))
    satisfied_built V fs q f (Sign x) s n h = ((λ x. x), (λ x. x))
    satisfied_built V fs q f (Not a) s n h = let e = f a s (ltb-true a q n) h in ((λ x y. x (e.1 y)), (λ x y. x (e.0 y)))
    satisfied_built V fs q f (Or a b) s n h = let p = and_parts (ltb a q) (ltb b q) n in either (f a s (ltb-true a q p.0) h) (f b s (ltb-true b q p.1) h)
    satisfied_built V fs q f (Next a) s n h = let i = ltb-true a q n in (
      (λ x. (x.0, x.1, (f a x.0 i (well.targets s x.0 h x.1)).0 x.2)),
      (λ x. (x.0, x.1, (f a x.0 i (well.targets s x.0 h x.1)).1 x.2)),
    )
    satisfied_built V fs q f (Until a b) s n h =
        let p = and_parts (ltb a q) (ltb b q) n in
        let A : (t : ℕ) → t < k.size → V a t ↔ Holds k (get_or fs a top) t = λ t j. f a t (ltb-true a q p.0) j in
        let B : (t : ℕ) → t < k.size → V b t ↔ Holds k (get_or fs b top) t = λ t j. f b t (ltb-true b q p.1) j in (
          (λ x. (map same x.0, through k k same well itself (V a) (V b) (Holds k (get_or fs a top)) (Holds k (get_or fs b top)) A B s x.0 h x.1)),
          (λ x. let over = lifted k k same well itself (V a) (V b) (Holds k (get_or fs a top)) (Holds k (get_or fs b top)) A B s x.0 h x.1 in (over.0, over.1)),
        )
