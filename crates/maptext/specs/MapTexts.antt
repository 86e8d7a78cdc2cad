-- What a map text means: what reading it answers, and what the tables hold after. Assumes nothing.
use Rattle.std.specs.Prelude.{◌≡◌, ℕ, zero, suc, ◌+◌, ◌<◌, ◌≤◌, Bool, true, false, cond, ◌&&◌, List, [], ◌∷◌, length, take, Some, None, Ok, Err, Option, Result, ◌==◌, slice_set}
use Rattle.listed.specs.Tables.{Tables, tables, questions}
use Rattle.listed.specs.declared.fault.ListedFault.{ListedFault}
use Rattle.listed.specs.declared.fault.ListedFault.TheVariants.{TooManyLooks, WrongLengths, WrongFirst, WrongTarget}
use Rattle.look.specs.declared.switch.SwitchLook.{SwitchLook}
use Rattle.map.specs.Questions.{first_no}
use Rattle.reader.specs.Readings.{Outcome, at_line, text_read}
use Rattle.reader.specs.Texts.{text_lines}
use Rattle.reader.specs.declared.fault.TextFault.{TextFault}
use Rattle.reader.specs.declared.fault.Trouble.TheVariants.{Incomplete}
use Rattle.reader.specs.declared.fault.Trouble.TheVariants.{Map as NoMap}
use Rattle.reader.specs.declared.place.Place.{Place}
use Rattle.reader.specs.declared.place.Place.TheVariants.{BeforeMap, AfterMap, InStates, InRules}
use Rattle.text.specs.declared.line.Line.{Line}
use Rattle.text.specs.declared.line.Line.TheVariants.{Map, State, Target, Rule}
use Rattle.text.specs.declared.line.LineFault.{LineFault}
use Rattle.maptext.specs.Steps.{Reading, begun, step}
use Rattle.maptext.specs.declared.progress.MapSize.{MapSize}
use Rattle.maptext.specs.declared.progress.Progress.{Progress}

-- what reading answers, and what the tables hold after
pub record MapRead : Type 0 where
  pub answer : Result MapSize TextFault
  pub held : Tables SwitchLook

-- there was an M line
abbrev pub has_map : Place → Bool
has_map BeforeMap = false
has_map AfterMap = true
has_map InStates = true
has_map InRules = true

-- there was an M line, and as many S lines as it says
abbrev pub complete : Progress → Bool
complete at = has_map at.place && at.states == at.size

-- the tables with the last first, where the targets of the last state end
abbrev pub closed : Reading → Tables SwitchLook
closed x = tables x.held.looks x.held.starts (slice_set x.held.firsts x.at.states x.at.moves) x.held.targets

-- the part of the tables that a text of this size wrote
abbrev pub part : MapSize → Tables SwitchLook → Tables SwitchLook
part n t = tables (take n.states t.looks) (take n.states t.starts) (take (n.states + 1) t.firsts) (take n.moves t.targets)

-- how much was written
abbrev pub size_of : Progress → MapSize
size_of at = record { states = at.states; moves = at.moves }

-- the number of T line k, counted from 0, where these are the lines from line n on
abbrev pub target_line : ℕ → ℕ → List (Result Line LineFault) → ℕ
target_line n k [] = n
target_line n k (Err fault ∷ more) = target_line (n + 1) k more
target_line n k (Ok (Map size) ∷ more) = target_line (n + 1) k more
target_line n k (Ok (State look start) ∷ more) = target_line (n + 1) k more
target_line n zero (Ok (Target target) ∷ more) = n
target_line n (suc k) (Ok (Target target) ∷ more) = target_line (n + 1) k more
target_line n k (Ok (Rule row) ∷ more) = target_line (n + 1) k more

-- the line of a fault of the map: the entry's T line for a wrong target, else the M line, which is the first
abbrev pub fault_line : List (Result Line LineFault) → ListedFault → ℕ
fault_line lines TooManyLooks = 1
fault_line lines WrongLengths = 1
fault_line lines (WrongFirst i) = 1
fault_line lines (WrongTarget k) = target_line 1 k lines

-- refused, with what the tables hold then
abbrev pub refused : Tables SwitchLook → TextFault → MapRead
refused t fault = record { answer = Err fault; held = t }

-- the map that was made, or its fault
abbrev pub judged : List (Result Line LineFault) → Reading → Option ListedFault → MapRead
judged lines x None = record { answer = Ok (size_of x.at); held = closed x }
judged lines x (Some fault) = refused (closed x) (at_line (fault_line lines fault) (NoMap fault))

-- the map of a complete text
abbrev pub made_of : List (Result Line LineFault) → Reading → MapRead
made_of lines x = judged lines x (first_no (questions (part (size_of x.at) (closed x))))

-- after the last line: a line was at fault, or the text is not complete, or the map is made
abbrev pub ended : List (Result Line LineFault) → Reading → Option TextFault → MapRead
ended lines x (Some fault) = refused x.held fault
ended lines x None = cond (complete x.at)
    (made_of lines x)
    (refused x.held (at_line (length lines + 1) Incomplete))

-- a text, read line by line
abbrev pub all_taken : List ℕ → Tables SwitchLook → Outcome Reading
all_taken text t = text_read step (begun t) text

-- there is room in the tables for what the M line said, and for the targets so far
pub record Within (x : Reading) : Type 0 where
  pub looks : has_map x.at.place ≡ true → x.at.size ≤ length x.held.looks
  pub starts : has_map x.at.place ≡ true → x.at.size ≤ length x.held.starts
  pub firsts : has_map x.at.place ≡ true → x.at.size < length x.held.firsts
  pub targets : x.at.moves ≤ length x.held.targets

-- what a map text means, for tables that hold t before
abbrev pub map_read : List ℕ → Tables SwitchLook → MapRead
map_read text t = ended (text_lines text) (all_taken text t).left (all_taken text t).fault
