-- The five-state map and the four-state map, state by state. Assumes nothing.
use Rattle.std.proofs.Common.{◌≡◌, ℕ, zero, suc, ◌<◌, ◌≤◌, Bool, true, false, ◌⊎◌, List, [], ◌∷◌, length, get_or, Some, None, sym, refl, subst, inl, inr, ⊎_elim, arith, below_none, below_more}
use Rattle.std.proofs.lemmas.Bool.{false≢true}
use Rattle.foldcheck.specs.Verdicts.{Asked, Before, Yes, FirstNo}
use Rattle.foldcheck.specs.declared.fault.FoldFault.{FoldFault}
use Rattle.foldcheck.specs.declared.fault.FoldFault.TheVariants.{WrongLength, NoClass, OtherLook, MoveLost, MoveAdded, StartLost, StartAdded, NotAClass}
use Rattle.look.specs.Switch.{switch_sign, switch_same}
use Rattle.look.specs.declared.switch.SwitchLook.{SwitchLook}
use Rattle.map.specs.Meaning.{Meaning, structure}
use Rattle.sharing.specs.Accepts.{class_of, HasClass, LooksAlike, MovesForth, MovesBack, StartsForth, StartsBack, IsClass, Accepts}
use Rattle.stl.specs.Structures.{Structure, Move}
use Rattle.foldrig.specs.Folded.{showing, map_of, four, Found}

abbrev sign : SwitchLook → ℕ → Bool
sign l k = switch_sign l.marks k

abbrev same : SwitchLook → SwitchLook → Bool
same a b = switch_same a.marks b.marks

abbrev looks : List SwitchLook
looks = showing 0 ∷ (showing 2 ∷ (showing 3 ∷ (showing 1 ∷ (showing 2 ∷ []))))

abbrev classes : List ℕ
classes = 0 ∷ (1 ∷ (2 ∷ (3 ∷ (1 ∷ []))))

-- the five-state map; without the move from 4 to 3; with 4 a start
abbrev five : Meaning SwitchLook
five = map_of looks (1 ∷ (0 ∷ (0 ∷ (0 ∷ (0 ∷ []))))) (0 ∷ (2 ∷ (4 ∷ (5 ∷ (5 ∷ (7 ∷ [])))))) (1 ∷ (4 ∷ (2 ∷ (3 ∷ (0 ∷ (2 ∷ (3 ∷ [])))))))

abbrev fewer : Meaning SwitchLook
fewer = map_of looks (1 ∷ (0 ∷ (0 ∷ (0 ∷ (0 ∷ []))))) (0 ∷ (2 ∷ (4 ∷ (5 ∷ (5 ∷ (6 ∷ [])))))) (1 ∷ (4 ∷ (2 ∷ (3 ∷ (0 ∷ (2 ∷ []))))))

abbrev more : Meaning SwitchLook
more = map_of looks (1 ∷ (0 ∷ (0 ∷ (0 ∷ (1 ∷ []))))) (0 ∷ (2 ∷ (4 ∷ (5 ∷ (5 ∷ (7 ∷ [])))))) (1 ∷ (4 ∷ (2 ∷ (3 ∷ (0 ∷ (2 ∷ (3 ∷ [])))))))

-- what holds at each of the first states
of_four : (P : ℕ → Type 0) → P 0 → P 1 → P 2 → P 3 → (s : ℕ) → s < 4 → P s
of_four P a b c d = below_more P 3 (below_more P 2 (below_more P 1 (below_more P 0 (below_none P) a) b) c) d

of_five : (P : ℕ → Type 0) → P 0 → P 1 → P 2 → P 3 → P 4 → (s : ℕ) → s < 5 → P s
of_five P a b c d e = below_more P 4 (of_four P a b c d) e

-- what holds of each entry of a list of one or of two holds of what is in it
in_one : (P : ℕ → Type 0) (x : ℕ) → P x → (t i : ℕ) → i < 1 → get_or (x ∷ []) i 0 ≡ t → P t
in_one P x p t zero h e = subst P e p
in_one P x p t (suc i) h e = absurd (omega arith)

in_two : (P : ℕ → Type 0) (x y : ℕ) → P x → P y → (t i : ℕ) → i < 2 → get_or (x ∷ (y ∷ [])) i 0 ≡ t → P t
in_two P x y p q t zero h e = subst P e p
in_two P x y p q t (suc zero) h e = subst P e q
in_two P x y p q t (suc (suc i)) h e = absurd (omega arith)

abbrev K : Structure
K = structure sign four

abbrev Five : Structure
Five = structure sign five

-- a move between the classes
abbrev Between : ℕ → ℕ → Type 0
Between s t = Move K (class_of classes s) (class_of classes t)

-- a move of the five-state map to a state of class d
abbrev Into : ℕ → ℕ → Type 0
Into s d = (t : ℕ) × Move Five s t × (class_of classes t ≡ d)

within : (s : ℕ) → s < 5 → HasClass sign same five four classes s
within = of_five (HasClass sign same five four classes) (omega arith) (omega arith) (omega arith) (omega arith) (omega arith)

alike : (s : ℕ) → s < 5 → LooksAlike sign same five four classes s
alike = of_five (LooksAlike sign same five four classes) refl refl refl refl refl

forth : (s : ℕ) → s < 5 → MovesForth sign same five four classes s
forth =
    of_five (MovesForth sign same five four classes)
    (λ t m. in_two (Between 0) 1 4 (0, omega arith, refl) (0, omega arith, refl) t m.0 m.1 m.2)
    (λ t m. in_two (Between 1) 2 3 (0, omega arith, refl) (1, omega arith, refl) t m.0 m.1 m.2)
    (λ t m. in_one (Between 2) 0 (0, omega arith, refl) t m.0 m.1 m.2)
    (λ t m. absurd (omega (arith, m.1)))
    (λ t m. in_two (Between 4) 2 3 (0, omega arith, refl) (1, omega arith, refl) t m.0 m.1 m.2)

back : (s : ℕ) → s < 5 → MovesBack sign same five four classes s
back =
    of_five (MovesBack sign same five four classes)
    (λ d m. in_one (Into 0) 1 (1, (0, omega arith, refl), refl) d m.0 m.1 m.2)
    (λ d m. in_two (Into 1) 2 3 (2, (0, omega arith, refl), refl) (3, (1, omega arith, refl), refl) d m.0 m.1 m.2)
    (λ d m. in_one (Into 2) 0 (0, (0, omega arith, refl), refl) d m.0 m.1 m.2)
    (λ d m. absurd (omega (arith, m.1)))
    (λ d m. in_two (Into 4) 2 3 (2, (0, omega arith, refl), refl) (3, (1, omega arith, refl), refl) d m.0 m.1 m.2)

-- a start that is none
no_start : {P : Type 0} → false ≡ true → P
no_start e = absurd (false≢true e)

pub accepted : Found five classes None
accepted = record {
  sized = refl;
  within = within;
  looks = alike;
  forth = forth;
  back = back;
  starts = of_five (StartsForth sign same five four classes) (λ _. refl) no_start no_start no_start no_start;
  started = of_four (StartsBack sign same five four classes) (λ _. (0, omega arith, refl, refl)) no_start no_start no_start;
  onto = of_four (IsClass sign same five four classes) (0, omega arith, refl) (1, omega arith, refl) (2, omega arith, refl) (3, omega arith, refl);
}

-- without the move from 4 to 3

fewer_forth : (s : ℕ) → s < 5 → MovesForth sign same fewer four classes s
fewer_forth =
    of_five (MovesForth sign same fewer four classes) (forth 0 (omega arith)) (forth 1 (omega arith)) (forth 2 (omega arith)) (forth 3 (omega arith))
    (λ t m. in_one (Between 4) 2 (0, omega arith, refl) t m.0 m.1 m.2)

fewer_back : (s : ℕ) → s < 4 → MovesBack sign same fewer four classes s
fewer_back = of_four (MovesBack sign same fewer four classes) (back 0 (omega arith)) (back 1 (omega arith)) (back 2 (omega arith)) (back 3 (omega arith))

-- what is asked after a question is not asked before it
not_before : {P : Type 0} (n m s t : ℕ) → m < n → (n < m) ⊎ ((n ≡ m) × (s < t)) → P
not_before n m s t h (inl l) = absurd (omega arith)
not_before n m s t h (inr e) = absurd (omega (arith, e.0))

-- the same question at a lower state
lower : (n s t : ℕ) → (n < n) ⊎ ((n ≡ n) × (s < t)) → s < t
lower n s t (inl l) = absurd (omega arith)
lower n s t (inr e) = e.1

fewer_before : (g : FoldFault) → Asked sign same fewer four classes g → Before g (MoveAdded 4) → Yes sign same fewer four classes g
fewer_before WrongLength a b = refl
fewer_before (NoClass s) a b = within s a
fewer_before (OtherLook s) a b = alike s a
fewer_before (MoveLost s) a b = fewer_forth s a
fewer_before (MoveAdded s) a b = fewer_back s (lower 31 s 4 b)
fewer_before (StartLost s) a b = not_before 32 31 s 4 (omega arith) b
fewer_before (StartAdded d) a b = not_before 33 31 d 4 (omega arith) b
fewer_before (NotAClass d) a b = not_before 34 31 d 4 (omega arith) b

pub move_added : Found fewer classes (Some (MoveAdded 4))
move_added = record {
  asked = omega arith;
  no = λ f. let t = f 3 (1, omega arith, refl) in in_one (λ x. class_of classes x ≡ 3 → ⊥) 2 (λ e. omega (arith, e)) t.0 t.1.0 t.1.1 t.1.2 t.2;
  before = fewer_before;
}

-- with 4 a start

more_starts : (s : ℕ) → s < 4 → StartsForth sign same more four classes s
more_starts = of_four (StartsForth sign same more four classes) (λ _. refl) no_start no_start no_start

more_before : (g : FoldFault) → Asked sign same more four classes g → Before g (StartLost 4) → Yes sign same more four classes g
more_before WrongLength a b = refl
more_before (NoClass s) a b = within s a
more_before (OtherLook s) a b = alike s a
more_before (MoveLost s) a b = forth s a
more_before (MoveAdded s) a b = back s a
more_before (StartLost s) a b = more_starts s (lower 32 s 4 b)
more_before (StartAdded d) a b = not_before 33 32 d 4 (omega arith) b
more_before (NotAClass d) a b = not_before 34 32 d 4 (omega arith) b

pub start_lost : Found more classes (Some (StartLost 4))
start_lost = record { asked = omega arith; no = λ f. false≢true (f refl); before = more_before }
