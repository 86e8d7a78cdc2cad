-- The worked fold, by the definitions: a five-state map onto the four-state map. Assumes nothing.
use Rattle.std.specs.Prelude.{◌≡◌, ℕ, List, [], ◌∷◌, Some, None, Option}
use Rattle.foldcheck.specs.Verdicts.{Judges}
use Rattle.foldcheck.specs.declared.fault.FoldFault.{FoldFault}
use Rattle.foldcheck.specs.declared.fault.FoldFault.TheVariants.{MoveAdded, StartLost}
use Rattle.listed.specs.Tables.{tables, questions, listed}
use Rattle.look.specs.Switch.{switch_sign, switch_same}
use Rattle.look.specs.declared.switch.SwitchLook.{SwitchLook}
use Rattle.map.specs.Meaning.{Meaning}
use Rattle.map.specs.Questions.{first_no}
use Rattle.foldrig.specs.declared.FiveStates.{FiveStates}

-- the look with these marks
abbrev pub showing : ℕ → SwitchLook
showing n = record { marks = n }

-- the map that tables of switch looks make
abbrev pub map_of : List SwitchLook → List ℕ → List ℕ → List ℕ → Meaning SwitchLook
map_of looks starts firsts targets = listed None (tables looks starts firsts targets)

-- the four-state map
abbrev pub four : Meaning SwitchLook
four = map_of (showing 0 ∷ (showing 2 ∷ (showing 3 ∷ (showing 1 ∷ [])))) (1 ∷ (0 ∷ (0 ∷ (0 ∷ [])))) (0 ∷ (1 ∷ (3 ∷ (4 ∷ (4 ∷ []))))) (1 ∷ (2 ∷ (3 ∷ (0 ∷ []))))

-- what is found of classes between a map and the four-state map
abbrev pub Found : Meaning SwitchLook → List ℕ → Option FoldFault → Type 0
Found full classes verdict = Judges (λ l k. switch_sign l.marks k) (λ a b. switch_same a.marks b.marks) full four classes verdict

pub record FoldFacts (r : FiveStates) : Type 0 where
  -- state 4 has look 2 and moves to 2 and 3, and 0 moves to 4 too; the rest is as in the four-state map
  pub looks : r.looks ≡ showing 0 ∷ (showing 2 ∷ (showing 3 ∷ (showing 1 ∷ (showing 2 ∷ []))))
  pub starts : r.starts ≡ 1 ∷ (0 ∷ (0 ∷ (0 ∷ (0 ∷ []))))
  pub firsts : r.firsts ≡ 0 ∷ (2 ∷ (4 ∷ (5 ∷ (5 ∷ (7 ∷ [])))))
  pub targets : r.targets ≡ 1 ∷ (4 ∷ (2 ∷ (3 ∷ (0 ∷ (2 ∷ (3 ∷ []))))))
  pub made : first_no (questions (tables r.looks r.starts r.firsts r.targets)) ≡ None
  -- classes 0, 1, 2, 3, 1 are accepted
  pub classes : r.classes ≡ 0 ∷ (1 ∷ (2 ∷ (3 ∷ (1 ∷ []))))
  pub accepted : Found (map_of r.looks r.starts r.firsts r.targets) r.classes None
  -- without the move from 4 to 3 the check gives 31 at 4
  pub fewer_made : first_no (questions (tables r.looks r.starts r.fewer_firsts r.fewer_targets)) ≡ None
  pub move_added : Found (map_of r.looks r.starts r.fewer_firsts r.fewer_targets) r.classes (Some (MoveAdded 4))
  -- with 4 a start it gives 32 at 4
  pub more_made : first_no (questions (tables r.looks r.more_starts r.firsts r.targets)) ≡ None
  pub start_lost : Found (map_of r.looks r.more_starts r.firsts r.targets) r.classes (Some (StartLost 4))
