-- What a line of a map text does. Assumes nothing.
use Rattle.std.specs.Prelude.{◌+◌, Bool, true, ◌&&◌, List, [], ◌∷◌, length, is_some, Some, None, Option, nat_le, nat_lt, slice_set}
use Rattle.listed.specs.Tables.{Tables, tables}
use Rattle.look.specs.declared.switch.SwitchLook.{SwitchLook}
use Rattle.map.specs.Questions.{Question, ask, first_no}
use Rattle.reader.specs.Places.{stands}
use Rattle.reader.specs.Readings.{Taken}
use Rattle.reader.specs.declared.fault.Trouble.{Trouble}
use Rattle.reader.specs.declared.fault.Trouble.TheVariants.{OutOfPlace, NoSpace}
use Rattle.reader.specs.declared.place.Place.TheVariants.{BeforeMap, AfterMap, InStates}
use Rattle.text.specs.declared.line.Line.{Line}
use Rattle.text.specs.declared.line.Line.TheVariants.{Map, State, Target, Rule}
use Rattle.maptext.specs.declared.progress.Progress.{Progress}

-- a text half read: how far it has been read, and what the tables hold
pub record Reading : Type 0 where
  pub at : Progress
  pub held : Tables SwitchLook

abbrev pub reading : Progress → Tables SwitchLook → Reading
reading p t = record { at = p; held = t }

-- nothing has been read yet
abbrev pub begun : Tables SwitchLook → Reading
begun t = reading (record { place = BeforeMap; size = 0; states = 0; moves = 0 }) t

-- the tables have space for a line: M asks for its size, and one first more; S for the next look, start byte and first; T for the
-- next target
abbrev pub space : Reading → Line → Bool
space x (Map size) = nat_le size (length x.held.looks) && (nat_le size (length x.held.starts) && nat_lt size (length x.held.firsts))
space x (State look start) = nat_lt x.at.states (length x.held.looks) && (nat_lt x.at.states (length x.held.starts) && nat_lt x.at.states (length x.held.firsts))
space x (Target target) = nat_lt x.at.moves (length x.held.targets)
space x (Rule row) = true

-- what a line does: M says the size; S writes the next look, its start byte, and where its targets begin; T writes the next target
abbrev pub does : Reading → Line → Reading
does x (Map n) = reading (record { place = AfterMap; size = n; states = x.at.states; moves = x.at.moves }) x.held
does x (State look start) =
    reading (record { place = InStates; size = x.at.size; states = x.at.states + 1; moves = x.at.moves })
    (tables (slice_set x.held.looks x.at.states (record { marks = look })) (slice_set x.held.starts x.at.states start) (slice_set x.held.firsts x.at.states x.at.moves) x.held.targets)
does x (Target target) =
    reading (record { place = x.at.place; size = x.at.size; states = x.at.states; moves = x.at.moves + 1 })
    (tables x.held.looks x.held.starts x.held.firsts (slice_set x.held.targets x.at.moves target))
does x (Rule row) = x

-- what is asked of a line that is well formed: may it stand here, and is there space for it
abbrev pub line_questions : Reading → Line → List (Question Trouble)
line_questions x line = ask (is_some (stands x.at.place line)) OutOfPlace ∷ (ask (space x line) NoSpace ∷ [])

-- a line that is turned down does nothing
abbrev pub unless : Option Trouble → Reading → Reading → Reading
unless None after before = after
unless (Some trouble) after before = before

-- one line taken
abbrev pub step : Reading → Line → Taken Reading
step x line = record { left = unless (first_no (line_questions x line)) (does x line) x; trouble = first_no (line_questions x line) }
