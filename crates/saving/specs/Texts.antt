-- The texts of maps and of rule lists, line by line. Assumes nothing.
use Rattle.std.specs.Prelude.{ℕ, zero, suc, Bool, cond, List, [], ◌∷◌, ◌++◌, map, Some, None, Option}
use Rattle.look.specs.declared.switch.SwitchLook.{SwitchLook}
use Rattle.map.specs.Meaning.{Meaning}
use Rattle.reader.specs.Texts.{written_text}
use Rattle.stl.specs.declared.row.Row.{Row}
use Rattle.text.specs.Written.{written_line}
use Rattle.text.specs.declared.line.Line.{Line}
use Rattle.text.specs.declared.line.Line.TheVariants.{Map, State, Target, Rule}

-- a line with byte 10 after it
abbrev pub ended : Line → List ℕ
ended line = written_line line ++ (10 ∷ [])

-- the word of a look, 0 where there is none
abbrev pub marks_of : Option SwitchLook → ℕ
marks_of None = 0
marks_of (Some look) = look.marks

-- 1 for a start, else 0
abbrev pub start_of : Bool → ℕ
start_of start = cond start 1 0

-- the lines of a state: its own, and one for each target
abbrev pub state_lines : ℕ → ℕ → List ℕ → List Line
state_lines look start targets = State look start ∷ map Target targets

-- the lines of state s of a map
abbrev pub lines_of : Meaning SwitchLook → ℕ → List Line
lines_of m s = state_lines (marks_of (m.look s)) (start_of (m.start s)) (m.list s)

-- the lines of the states below n, in order
abbrev pub first_states : Meaning SwitchLook → ℕ → List Line
first_states m zero = []
first_states m (suc n) = first_states m n ++ lines_of m n

-- the lines of a map: its size, and those of its states
abbrev pub map_lines : Meaning SwitchLook → List Line
map_lines m = Map m.size ∷ first_states m m.size

-- the text of a map
abbrev pub map_text : Meaning SwitchLook → List ℕ
map_text m = written_text (map_lines m)

-- the text of rows: one line for each
abbrev pub rule_text : List Row → List ℕ
rule_text rows = written_text (map Rule rows)
