-- Two sessions side by side, one on a full structure and one on a folded structure, issued the same calls. Assumes nothing.
use Rattle.std.specs.Prelude.{◌≡◌, ℕ, ◌≤◌, List, [], ◌∷◌, length, ◌↔◌}
use Rattle.calls.specs.Alike.{Alike}
use Rattle.calls.specs.Answers.{State}
use Rattle.calls.specs.Effects.{Tables}
use Rattle.calls.specs.Histories.{Moment, History}
use Rattle.calls.specs.declared.call.Call.{Call}
use Rattle.calls.specs.declared.call.Call.TheVariants.{Add, Mark, Label, Verdict, Witness}
use Rattle.stl.specs.Structures.{Structure}

-- P where the call asks for a witness
abbrev pub ForWitness : Call → Type 0 → Type 0
ForWitness (Add row) P = Unit {0}
ForWitness Mark P = Unit {0}
ForWitness (Label s r) P = Unit {0}
ForWitness (Verdict r) P = Unit {0}
ForWitness (Witness s r) P = P

-- the tables lent to two witness calls: run tables of one length, and work tables that both suffice or both do not
pub record SameRoom (full folded : Structure) (t u : Tables) : Type 0 where
  pub runs : length t.run ≡ length u.run
  pub works : (full.size ≤ length t.work) ↔ (folded.size ≤ length u.work)

-- the same call on both: a state goes to the folded session as its class, a missing one as a missing one; both sheets have a word
-- for each state, or both are too short
pub record SameCall (full folded : Structure) (class : ℕ → ℕ) (m n : Moment) : Type 0 where
  pub asked : Alike full folded class m.asked n.asked
  pub sheets : (full.size ≤ length m.given.sheet) ↔ (folded.size ≤ length n.given.sheet)
  pub room : ForWitness m.asked (SameRoom full folded m.given n.given)

-- of the calls of two sessions, each with its like
abbrev pub Pairwise : (Moment → Moment → Type 0) → List Moment → List Moment → Type 0
Pairwise R [] [] = Unit {0}
Pairwise R [] (n ∷ ns) = ⊥
Pairwise R (m ∷ ms) [] = ⊥
Pairwise R (m ∷ ms) (n ∷ ns) = R m n × Pairwise R ms ns

-- two sessions, each just opened on its structure and then issued calls, the same on both, each on the outcome of those before:
-- what they keep now, their sheets now, and their calls, the latest first
pub record SideBySide (full folded : Structure) (class : ℕ → ℕ) (st su : State) (sheet other : List ℕ) (ms ns : List Moment) : Type 0 where
  pub on_full : History full st sheet ms
  pub on_folded : History folded su other ns
  pub alike : Pairwise (SameCall full folded class) ms ns
