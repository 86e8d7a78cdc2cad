-- What the tables hold after the lines of a map's first states. Assumes nothing.
use Rattle.std.proofs.Common.{◌≡◌, ℕ, zero, suc, ◌+◌, ◌<◌, ◌≤◌, true, ◌⊎◌, List, [], ◌∷◌, ◌++◌, map, length, take, set, is_some, sym, refl, ap, ◌∙◌, subst, inl, inr, ⊎_elim, add-one, arith}
use Rattle.std.proofs.lemmas.List.FromFn.{map-range_with_len_more}
use Rattle.std.proofs.lemmas.List.{append_assoc, append-nil, length-append, length_push, length-set, take_more_set}
use Rattle.std.proofs.lemmas.Bool.{and_from, cases_eq, lt-ltb}
use Rattle.std.specs.List.{range_with_len}
use Rattle.listed.specs.Tables.{Tables, tables}
use Rattle.look.specs.declared.switch.SwitchLook.{SwitchLook}
use Rattle.map.proofs.Asked.{passes}
use Rattle.map.specs.Meaning.{Meaning}
use Rattle.maptext.specs.MapTexts.{closed, part, size_of}
use Rattle.maptext.specs.Steps.{Reading, does, line_questions}
use Rattle.reader.specs.Places.{stands}
use Rattle.reader.specs.declared.place.Place.{Place}
use Rattle.reader.specs.declared.place.Place.TheVariants.{AfterMap, InStates}
use Rattle.text.specs.declared.line.Line.TheVariants.{State, Target}
use Rattle.saving.specs.ReadBack.{moves_below, map_size, Room}
use Rattle.saving.specs.Texts.{marks_of, start_of, lines_of, first_states}
use Rattle.saving.proofs.Taken.{all_done, Fine, fine_append, done_append}

-- the entries of the four tables
abbrev pub look_at : Meaning SwitchLook → ℕ → SwitchLook
look_at m s = record { marks = marks_of (m.look s) }

abbrev pub start_at : Meaning SwitchLook → ℕ → ℕ
start_at m s = start_of (m.start s)

abbrev pub targets_below : Meaning SwitchLook → ℕ → List ℕ
targets_below m zero = []
targets_below m (suc n) = targets_below m n ++ m.list n

abbrev pub tables_of : Meaning SwitchLook → Tables SwitchLook
tables_of m = tables (map (look_at m) (range_with_len 0 m.size)) (map (start_at m) (range_with_len 0 m.size)) (map (moves_below m) (range_with_len 0 (m.size + 1))) (targets_below m m.size)

pub length_targets : (m : Meaning SwitchLook) (n : ℕ) → length (targets_below m n) ≡ moves_below m n
length_targets m zero = refl
length_targets m (suc n) = omega (arith, length-append (targets_below m n) (m.list n), length_targets m n)

pub moves_climb : (m : Meaning SwitchLook) (n k : ℕ) → n ≤ k → moves_below m n ≤ moves_below m k
moves_climb m n zero h = let e : n ≡ 0 = omega arith in omega (arith, ap (moves_below m) e)
moves_climb m n (suc k) h = ⊎_elim (λ e. omega (arith, ap (moves_below m) e)) (λ ne. omega (arith, moves_climb m n k (omega arith))) (cases_eq n (suc k))

-- n states are written, and the targets ts
pub record Wrote (m : Meaning SwitchLook) (n : ℕ) (ts : List ℕ) (x : Reading) : Type 0 where
  pub size : x.at.size ≡ m.size
  pub states : x.at.states ≡ n
  pub moves : x.at.moves ≡ length ts
  pub looks : take x.at.states x.held.looks ≡ map (look_at m) (range_with_len 0 n)
  pub starts : take x.at.states x.held.starts ≡ map (start_at m) (range_with_len 0 n)
  pub firsts : take x.at.states x.held.firsts ≡ map (moves_below m) (range_with_len 0 n)
  pub targets : take x.at.moves x.held.targets ≡ ts
  pub room : Room m x.held

-- one entry more in a table that holds n
one_more : {X : Type 0} (f : ℕ → X) (n i : ℕ) (xs : List X) (y : X) → i < length xs → y ≡ f n → take i xs ≡ map f (range_with_len 0 n) → take (i + 1) (set xs i y) ≡ map f (range_with_len 0 (n + 1))
one_more f n i xs y h e held =
    take_more_set xs i y h ∙ ap (λ ys. ys ++ (y ∷ [])) held ∙ ap (λ z. map f (range_with_len 0 n) ++ (z ∷ [])) e ∙ sym (map-range_with_len_more f 0 n n (omega arith))

module _ (m : Meaning SwitchLook) where
  -- a T line
  wrote_target : (n : ℕ) (ts : List ℕ) (x : Reading) (t : ℕ) → x.at.place ≡ InStates → length ts < length x.held.targets → Wrote m n ts x →
      Fine x (Target t ∷ []) × Wrote m n (ts ++ (t ∷ [])) (does x (Target t))
  wrote_target n ts x t p h w =
      let moved = w.moves in
      let l : x.at.moves < length x.held.targets = omega arith in (
        (passes (line_questions x (Target t)) (ap (λ (q : Place). is_some (stands q (Target t))) p, (lt-ltb _ _ l, tt)), tt),
        record {
          size = w.size;
          states = w.states;
          moves = omega (arith, length_push ts t);
          looks = w.looks;
          starts = w.starts;
          firsts = w.firsts;
          targets = take_more_set x.held.targets x.at.moves t l ∙ ap (λ us. us ++ (t ∷ [])) w.targets;
          room = record { looks = w.room.looks; starts = w.room.starts; firsts = w.room.firsts; targets = simp length-set w.room.targets };
        },
      )

  -- the T lines of a state
  wrote_targets : (n : ℕ) (ts : List ℕ) (x : Reading) (us : List ℕ) → x.at.place ≡ InStates → length ts + length us ≤ length x.held.targets → Wrote m n ts x →
      Fine x (map Target us) × ((all_done x (map Target us)).at.place ≡ InStates) × Wrote m n (ts ++ us) (all_done x (map Target us))
  wrote_targets n ts x [] p h w = (tt, p, subst (λ vs. Wrote m n vs x) (sym (append-nil ts)) w)
  wrote_targets n ts x (u ∷ us) p h w =
      let one = wrote_target n ts x u p (omega arith) w in
      let more = wrote_targets n (ts ++ (u ∷ [])) (does x (Target u)) us p (simp length-set (omega (arith, length_push ts u))) one.1 in
      ((one.0.0, more.0), more.1, subst (λ vs. Wrote m n vs (all_done (does x (Target u)) (map Target us))) (append_assoc ts (u ∷ []) us) more.2)

  -- an S line
  wrote_state : (n : ℕ) (x : Reading) → (x.at.place ≡ AfterMap) ⊎ (x.at.place ≡ InStates) → n < m.size → Wrote m n (targets_below m n) x →
      Fine x (State (marks_of (m.look n)) (start_at m n) ∷ []) × Wrote m (n + 1) (targets_below m n) (does x (State (marks_of (m.look n)) (start_at m n)))
  wrote_state n x p l w =
      let is = w.states in
      let room = w.room in
      let stands_here : is_some (stands x.at.place (State (marks_of (m.look n)) (start_at m n))) ≡ true = ⊎_elim
      (λ e. ap (λ (q : Place). is_some (stands q (State (marks_of (m.look n)) (start_at m n)))) e)
      (λ e. ap (λ (q : Place). is_some (stands q (State (marks_of (m.look n)) (start_at m n)))) e)
      p in
      let a : x.at.states < length x.held.looks = omega arith in
      let b : x.at.states < length x.held.starts = omega arith in
      let c : x.at.states < length x.held.firsts = omega arith in (
        (passes (line_questions x (State (marks_of (m.look n)) (start_at m n))) (stands_here, (and_from _ _ (lt-ltb _ _ a) (and_from _ _ (lt-ltb _ _ b) (lt-ltb _ _ c)), tt)), tt),
        record {
          size = w.size;
          states = omega arith;
          moves = w.moves;
          looks = one_more (look_at m) n x.at.states x.held.looks (look_at m n) a refl w.looks;
          starts = one_more (start_at m) n x.at.states x.held.starts (start_at m n) b refl w.starts;
          firsts = one_more (moves_below m) n x.at.states x.held.firsts x.at.moves c (w.moves ∙ length_targets m n) w.firsts;
          targets = w.targets;
          room = record { looks = simp length-set room.looks; starts = simp length-set room.starts; firsts = simp length-set room.firsts; targets = room.targets };
        },
      )

  -- the lines of the states below n
  pub wrote_states : (n : ℕ) (x : Reading) → x.at.place ≡ AfterMap → n ≤ m.size → Wrote m 0 [] x →
      Fine x (first_states m n) × (((all_done x (first_states m n)).at.place ≡ AfterMap) ⊎ ((all_done x (first_states m n)).at.place ≡ InStates)) × Wrote m n (targets_below m n) (all_done x (first_states m n))
  wrote_states zero x p h w = (tt, inl p, w)
  wrote_states (suc n) x p h w =
      let front = wrote_states n x p (omega arith) w in
      let y = all_done x (first_states m n) in
      let own = wrote_state n y front.1 (omega arith) front.2 in
      let z = does y (State (marks_of (m.look n)) (start_at m n)) in
      let fits = moves_climb m (suc n) m.size h in
      let its = wrote_targets (n + 1) (targets_below m n) z (m.list n) refl (omega (arith, own.1.room.targets, length_targets m n)) own.1 in
      let joined = sym (done_append x (first_states m n) (lines_of m n)) in (
        fine_append x (first_states m n) (lines_of m n) front.0 (own.0.0, its.0),
        inr (subst (λ (r : Reading). r.at.place ≡ InStates) joined its.1),
        subst (λ (r : Reading). Wrote m (suc n) (targets_below m (suc n)) r) joined (subst (λ k. Wrote m k (targets_below m (suc n)) (all_done z (map Target (m.list n)))) (add-one n) its.2),
      )

  -- the whole map
  module _ (x : Reading) (w : Wrote m m.size (targets_below m m.size) x) where
    pub size_is : size_of x.at ≡ map_size m
    size_is = let a = w.states in let b : x.at.moves ≡ moves_below m m.size = w.moves ∙ length_targets m m.size in cc

    pub part_is : part (size_of x.at) (closed x) ≡ tables_of m
    part_is =
        let a = w.looks in
        let b = w.starts in
        let l : x.at.states < length x.held.firsts = omega (arith, w.room.firsts, w.states) in
        let c = one_more (moves_below m) m.size x.at.states x.held.firsts x.at.moves l (w.moves ∙ length_targets m m.size) w.firsts in
        let d = w.targets in
        cc
