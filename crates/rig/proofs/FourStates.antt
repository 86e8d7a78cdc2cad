-- The four-state map and its eight rows, state by state. Assumes nothing.
use Rattle.std.specs.Prelude.{◌↔◌}
use Rattle.std.proofs.Common.{◌≡◌, ℕ, zero, suc, ◌<◌, ◌≤◌, Bool, true, false, ◌⊎◌, List, [], ◌∷◌, length, get_or, None, sym, refl, subst, inl, inr, ⊎_elim, arith, below_none, below_more}
use Rattle.std.proofs.lemmas.Bool.{false≢true}
use Rattle.look.specs.Bits.{bit_on}
use Rattle.look.specs.Switch.{switch_sign}
use Rattle.look.specs.declared.switch.SwitchLook.{SwitchLook}
use Rattle.listed.specs.Tables.{tables, listed}
use Rattle.map.specs.Meaning.{structure}
use Rattle.stl.specs.Rows.{by_logic}
use Rattle.stl.specs.Structures.{Structure, Move}
use Rattle.stl.specs.Until.{Reaches, Shortest}
use Rattle.stl.specs.declared.row.Row.{Row}
use Rattle.stl.specs.declared.row.Row.TheVariants.{True, Sign, Not, Or, Until, Next}

abbrev showing : ℕ → SwitchLook
showing n = record { marks = n }

abbrev k : Structure
k = structure (λ l n. switch_sign l.marks n)
    (listed None (tables (showing 0 ∷ (showing 2 ∷ (showing 3 ∷ (showing 1 ∷ [])))) (1 ∷ (0 ∷ (0 ∷ (0 ∷ [])))) (0 ∷ (1 ∷ (3 ∷ (4 ∷ (4 ∷ []))))) (1 ∷ (2 ∷ (3 ∷ (0 ∷ []))))))

abbrev rows : List Row
rows = True ∷ (Sign 0 ∷ (Sign 1 ∷ (Not 1 ∷ (Or 3 2 ∷ (Not 4 ∷ (Until 0 5 ∷ (Next 1 ∷ [])))))))

-- row q holds at s
abbrev RowHolds : ℕ → ℕ → Type 0
RowHolds q s = by_logic k rows q s

-- a label that is on, and one that is off
on : {P : Type 0} → P → (true ≡ true) ↔ P
on p = ((λ _. p), (λ _. refl))

off : {P : Type 0} → (P → ⊥) → (false ≡ true) ↔ P
off n = ((λ e. absurd (false≢true e)), (λ p. absurd (n p)))

-- the moves, and that there are no others from 0 and 2, and none from 3
move_01 : Move k 0 1
move_01 = (0, omega arith, refl)

move_13 : Move k 1 3
move_13 = (1, omega arith, refl)

move_20 : Move k 2 0
move_20 = (0, omega arith, refl)

only_entry : (x t i : ℕ) → i < 1 → get_or (x ∷ []) i 0 ≡ t → x ≡ t
only_entry x t zero h e = e
only_entry x t (suc i) h e = absurd (omega arith)

only_01 : (t : ℕ) → Move k 0 t → 1 ≡ t
only_01 t m = only_entry 1 t m.0 m.1 m.2

only_20 : (t : ℕ) → Move k 2 t → 0 ≡ t
only_20 t m = only_entry 0 t m.0 m.1 m.2

-- row 5 holds at 3 alone
five_at_3 : RowHolds 5 3
five_at_3 = ⊎_elim (λ f. f refl) false≢true

no_five_at_0 : RowHolds 5 0 → ⊥
no_five_at_0 f = f (inl false≢true)

no_five_at_1 : RowHolds 5 1 → ⊥
no_five_at_1 f = f (inl false≢true)

-- row 6: a run to state 3 from each state
run_0 : Reaches k (RowHolds 0) (RowHolds 5) 0 (1 ∷ (3 ∷ []))
run_0 = record { run = (move_01, (move_13, tt)); ends = five_at_3; keeps = (inl tt, (inl tt, inl tt)) }

run_1 : Reaches k (RowHolds 0) (RowHolds 5) 1 (3 ∷ [])
run_1 = record { run = (move_13, tt); ends = five_at_3; keeps = (inl tt, inl tt) }

run_2 : Reaches k (RowHolds 0) (RowHolds 5) 2 (0 ∷ (1 ∷ (3 ∷ [])))
run_2 = record { run = (move_20, (move_01, (move_13, tt))); ends = five_at_3; keeps = (inl tt, (inl tt, (inl tt, inl tt))) }

run_3 : Reaches k (RowHolds 0) (RowHolds 5) 3 []
run_3 = record { run = tt; ends = five_at_3; keeps = inl tt }

-- no run from 0 has fewer than two moves
two_moves : (rest : List ℕ) → Reaches k (RowHolds 0) (RowHolds 5) 0 rest → 2 ≤ length rest
two_moves [] r = absurd (no_five_at_0 r.ends)
two_moves (t ∷ []) r = absurd (no_five_at_1 (subst (RowHolds 5) (sym (only_01 t r.run.0)) r.ends))
two_moves (t ∷ (u ∷ rest)) r = omega arith

pub from_0 : Shortest k (RowHolds 0) (RowHolds 5) 0 (1 ∷ (3 ∷ []))
from_0 = record { reaches = run_0; least = two_moves }

pub from_3 : Shortest k (RowHolds 0) (RowHolds 5) 3 []
from_3 = record { reaches = run_3; least = λ other r. omega arith }

-- row 7 holds at 1 alone
no_seven_at_0 : RowHolds 7 0 → ⊥
no_seven_at_0 p = false≢true (subst (RowHolds 1) (sym (only_01 p.0 p.1)) p.2)

no_seven_at_2 : RowHolds 7 2 → ⊥
no_seven_at_2 p = false≢true (subst (RowHolds 1) (sym (only_20 p.0 p.1)) p.2)

no_seven_at_3 : RowHolds 7 3 → ⊥
no_seven_at_3 p = omega (arith, p.1.1)

-- what holds at each of the four states, or of each of the eight rows
four : (P : ℕ → Type 0) → P 0 → P 1 → P 2 → P 3 → (s : ℕ) → s < 4 → P s
four P a b c d = below_more P 3 (below_more P 2 (below_more P 1 (below_more P 0 (below_none P) a) b) c) d

abbrev Labelled : ℕ → ℕ → Type 0
Labelled q s = (bit_on (get_or (89 ∷ (221 ∷ (87 ∷ (99 ∷ [])))) s 0) q ≡ true) ↔ RowHolds q s

abbrev RowLabelled : ℕ → Type 0
RowLabelled q = (s : ℕ) → s < 4 → Labelled q s

pub labelled : (q : ℕ) → q < 8 → RowLabelled q
labelled =
    below_more RowLabelled 7 (below_more RowLabelled 6 (below_more RowLabelled 5 (below_more RowLabelled 4
    (four RowLabelled
    (four (Labelled 0) (on tt) (on tt) (on tt) (on tt))
    (four (Labelled 1) (off false≢true) (off false≢true) (on refl) (on refl))
    (four (Labelled 2) (off false≢true) (on refl) (on refl) (off false≢true))
    (four (Labelled 3) (on false≢true) (on false≢true) (off (λ f. f refl)) (off (λ f. f refl))))
    (four (Labelled 4) (on (inl false≢true)) (on (inl false≢true)) (on (inr refl)) (off five_at_3)))
    (four (Labelled 5) (off no_five_at_0) (off no_five_at_1) (off (λ f. f (inr refl))) (on five_at_3)))
    (four (Labelled 6) (on (_, run_0)) (on (_, run_1)) (on (_, run_2)) (on (_, run_3))))
    (four (Labelled 7) (off no_seven_at_0) (on (3, move_13, refl)) (off no_seven_at_2) (off no_seven_at_3))
