-- What is written reads back: the text of a map is read as that map, and the text of rows as those rows. Assumes nothing.
use Rattle.std.specs.Prelude.{◌≡◌, ℕ, zero, suc, ◌+◌, ◌^◌, ◌<◌, ◌≤◌, List, length, None, Ok}
use Rattle.std.specs.List.{AllByRecursion}
use Rattle.calls.specs.Opening.{fresh}
use Rattle.listed.specs.Tables.{Tables, questions, listed}
use Rattle.look.specs.declared.switch.SwitchLook.{SwitchLook}
use Rattle.map.specs.Meaning.{Meaning}
use Rattle.map.specs.Questions.{first_no}
use Rattle.maptext.specs.MapTexts.{MapRead, part, map_read}
use Rattle.maptext.specs.declared.progress.MapSize.{MapSize}
use Rattle.ruletext.specs.RuleTexts.{rule_read}
use Rattle.stl.specs.Structures.{Structure}
use Rattle.stl.specs.declared.row.Row.{Row}
use Rattle.text.specs.Written.{RowFits}
use Rattle.saving.specs.Texts.{marks_of, map_text, rule_text}

-- no question tells the two maps apart
pub record SameMap (m n : Meaning SwitchLook) : Type 0 where
  pub size : m.size ≡ n.size
  pub start : (s : ℕ) → m.start s ≡ n.start s
  pub look : (s : ℕ) → m.look s ≡ n.look s
  pub list : (s : ℕ) → m.list s ≡ n.list s

-- how many entries the lists of the states below n have
abbrev pub moves_below : Meaning SwitchLook → ℕ → ℕ
moves_below m zero = 0
moves_below m (suc n) = moves_below m n + length (m.list n)

-- how much of the tables the map takes
abbrev pub map_size : Meaning SwitchLook → MapSize
map_size m = record { states = m.size; moves = moves_below m m.size }

-- each look is a word of 32 bits; a meaning alone does not say so
abbrev pub LooksFit : Meaning SwitchLook → Type 0
LooksFit m = (s : ℕ) → s < m.size → marks_of (m.look s) < 2 ^ 32

-- the tables have room for the map
pub record Room (m : Meaning SwitchLook) (t : Tables SwitchLook) : Type 0 where
  pub looks : m.size ≤ length t.looks
  pub starts : m.size ≤ length t.starts
  pub firsts : m.size < length t.firsts
  pub targets : moves_below m m.size ≤ length t.targets

-- m was read: the answer tells how much was written, and what was written is not refused, and is m
pub record ReadAs (m : Meaning SwitchLook) (read : MapRead) : Type 0 where
  pub answer : read.answer ≡ Ok (map_size m)
  pub made : first_no (questions (part (map_size m) read.held)) ≡ None
  pub same : SameMap m (listed (first_no (questions (part (map_size m) read.held))) (part (map_size m) read.held))

-- the text of m, where it is not too long, is read as m into any tables with room
abbrev pub MapReadsBack : Meaning SwitchLook → Type 0
MapReadsBack m = (t : Tables SwitchLook) → Room m t → LooksFit m → length (map_text m) ≤ 60000 → ReadAs m (map_read (map_text m) t)

-- the text of rows is read as those rows into a session just opened, on any structure that its sheet has words for
abbrev pub RulesReadBack : List Row → Type 0
RulesReadBack rows = (k : Structure) (words : ℕ) → k.size ≤ words → AllByRecursion RowFits rows →
    rule_read k words fresh (rule_text rows) ≡ record { left = record { rows = rows; marked = 0 }; fault = None }
