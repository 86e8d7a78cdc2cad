-- Shortest runs and their lengths across a fold. Assumes nothing.
use Rattle.std.proofs.Common.{◌≡◌, ℕ, ◌<◌, ◌≤◌, List, map, length, sym, ap, ◌∙◌, subst, arith}
use lib.ListN.{length-map}
use Rattle.stl.specs.Folds.{Folds}
use Rattle.stl.specs.Structures.{Structure, WellFormed}
use Rattle.stl.specs.Until.{Reaches, Shortest, Length, Greatest}
use Rattle.stl.proofs.Folds.{Across, through, lifted}
use Rattle.stl.proofs.Shortest.{below_size}

module _ (full folded : Structure) (class : ℕ → ℕ) (well : WellFormed full) (fold : Folds full folded class)
    (A B C D : ℕ → Type 0) (f : Across full class A C) (g : Across full class B D) where
  -- a shortest run, read through the fold, is a shortest run from the class
  pub shortest_through : (s : ℕ) (rest : List ℕ) → s < full.size → Shortest full A B s rest → Shortest folded C D (class s) (map class rest)
  shortest_through s rest h w = record {
    reaches = through full folded class well fold A B C D f g s rest h w.reaches;
    least = λ other r.
        let over = lifted full folded class well fold A B C D f g s other h r in
        omega (arith, w.least over.0 over.1, length-map rest class, length-map over.0 class, ap length over.2);
  }

  -- the shortest length from a class is that from the state
  pub length_forth : (s n : ℕ) → s < full.size → Length full A B s n → Length folded C D (class s) n
  length_forth s n h w = (map class w.0, shortest_through s w.0 h w.1, length-map w.0 class ∙ w.2)

  -- so it is below the folded structure's size
  pub length_below : WellFormed folded → (s n : ℕ) → s < full.size → Length full A B s n → n < folded.size
  length_below welled s n h w =
      below_size folded C D welled (class s) n (fold.within s h) (length_forth s n h w)

  -- and the other way
  pub length_back : (s n : ℕ) → s < full.size → Length folded C D (class s) n → Length full A B s n
  length_back s n h w =
      let over = lifted full folded class well fold A B C D f g s w.0 h w.1.reaches in
      let same : length over.0 ≡ n = sym (length-map over.0 class) ∙ ap length over.2 ∙ w.2 in
      let least : (other : List ℕ) → Reaches full A B s other → length over.0 ≤ length other =
      λ other r. omega (arith, w.2, same, length-map other class, w.1.least (map class other) (through full folded class well fold A B C D f g s other h r)) in
      (over.0, record { reaches = over.1; least = least }, same)

  -- the greatest of the shortest lengths is the same
  pub greatest_forth : (n : ℕ) → Greatest full A B n → Greatest folded C D n
  greatest_forth n w = record {
    above = λ d m h l.
        let over = fold.onto d h in
        w.above over.0 m over.1 (length_back over.0 m over.1 (subst (λ e. Length folded C D e m) (sym over.2) l));
    met = λ h. let at = w.met h in (class at.0, fold.within at.0 at.1, length_forth at.0 n at.1 at.2);
  }
