-- The worked example, by the definitions. Assumes nothing.
use Rattle.std.specs.Prelude.{◌≡◌, ℕ, ◌<◌, true, false, List, [], ◌∷◌, map, None, slice_index, ◌↔◌}
use Rattle.look.specs.Bits.{bit_on}
use Rattle.look.specs.Level.{level_same}
use Rattle.look.specs.Switch.{switch_sign}
use Rattle.look.specs.declared.level.LevelLook.{LevelLook}
use Rattle.look.specs.declared.switch.SwitchLook.{SwitchLook}
use Rattle.map.specs.Meaning.{Meaning, structure}
use Rattle.map.specs.Questions.{first_no}
use Rattle.listed.specs.Tables.{Tables, tables, questions, listed}
use Rattle.stl.specs.Rows.{by_logic}
use Rattle.stl.specs.Structures.{Structure}
use Rattle.stl.specs.Until.{Shortest}
use Rattle.stl.specs.declared.row.Row.TheVariants.{True, Sign, Not, Or, Until, Next}
use Rattle.switches.specs.Switched.{questions as asked_of_switches, switched}
use Rattle.rig.specs.declared.Rig.{Rig}

-- the tables of the four-state map
abbrev pub tables_of : Rig → Tables SwitchLook
tables_of r = tables r.looks r.starts r.firsts r.targets

-- the map that they make
abbrev pub four_states : Rig → Meaning SwitchLook
four_states r = listed None (tables_of r)

-- its structure
abbrev pub four_structure : Rig → Structure
four_structure r = structure (λ l k. switch_sign l.marks k) (four_states r)

-- row q of the four-state map holds at s
abbrev pub row_holds : Rig → ℕ → ℕ → Type 0
row_holds r q s = by_logic (four_structure r) r.rows q s

-- the map of the two switches and their command
abbrev pub two_switches : Rig → Meaning SwitchLook
two_switches r = switched None r.panel r.commands

pub record WorkedFacts (r : Rig) : Type 0 where
  -- the four states show the marks 0, 2, 3 and 1
  pub marks : map (λ l. l.marks) r.looks ≡ 0 ∷ (2 ∷ (3 ∷ (1 ∷ [])))
  -- their tables make a map
  pub made : first_no (questions (tables_of r)) ≡ None
  -- state 0 alone is a start
  pub starts : map (four_states r).start (0 ∷ (1 ∷ (2 ∷ (3 ∷ [])))) ≡ true ∷ (false ∷ (false ∷ (false ∷ [])))
  -- 0 moves to 1, 1 to 2 and 3, 2 to 0, and 3 to nothing
  pub moves : map (four_states r).list (0 ∷ (1 ∷ (2 ∷ (3 ∷ [])))) ≡ (1 ∷ []) ∷ ((2 ∷ (3 ∷ [])) ∷ ((0 ∷ []) ∷ ([] ∷ [])))
  -- its rows, and the label words 89, 221, 87 and 99: bit q of word s is on exactly where s satisfies row q
  pub rows : r.rows ≡ True ∷ (Sign 0 ∷ (Sign 1 ∷ (Not 1 ∷ (Or 3 2 ∷ (Not 4 ∷ (Until 0 5 ∷ (Next 1 ∷ [])))))))
  pub words : r.words ≡ 89 ∷ (221 ∷ (87 ∷ (99 ∷ [])))
  pub labels : (q : ℕ) → q < 8 → (s : ℕ) → s < 4 → (bit_on (slice_index r.words s) q ≡ true) ↔ row_holds r q s
  -- 0, 1, 3 is a shortest run for row 6 from state 0, and 3 alone from state 3
  pub run_from_0 : Shortest (four_structure r) (row_holds r 0) (row_holds r 5) 0 (1 ∷ (3 ∷ []))
  pub run_from_3 : Shortest (four_structure r) (row_holds r 0) (row_holds r 5) 3 []
  -- levels 32 and 47 are the same, 47 and 48 are not
  pub levels : map (λ l. l.level) r.levels ≡ 32 ∷ (47 ∷ (48 ∷ []))
  pub same_step : level_same 32 47 ≡ true
  pub next_step : level_same 47 48 ≡ false
  -- two switches, and a command that needs switch 0 off, turns it on and switch 1 off: 0 and 2 move to 1, 1 and 3 do not move
  pub switches_made : first_no (asked_of_switches r.panel r.commands) ≡ None
  pub switches_size : (two_switches r).size ≡ 4
  pub switches_move : map (two_switches r).list (0 ∷ (1 ∷ (2 ∷ (3 ∷ [])))) ≡ (1 ∷ []) ∷ ([] ∷ ((1 ∷ []) ∷ ([] ∷ [])))
