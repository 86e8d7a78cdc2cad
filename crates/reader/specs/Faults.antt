-- What is wrong in a text: the number of each trouble, and the field that it carries. Assumes nothing.
use Rattle.std.specs.Prelude.{ℕ, Some, None, Option}
use Rattle.calls.specs.Faults.{refusal as session_refusal}
use Rattle.listed.specs.Faults.{refusal as map_refusal}
use Rattle.text.specs.Faults.{refusal as line_refusal}
use Rattle.reader.specs.declared.fault.Trouble.{Trouble}
use Rattle.reader.specs.declared.fault.Trouble.TheVariants.{TooLong, Line, OutOfPlace, NoSpace, Incomplete, Map, Session}

-- the number of the innermost refusal
abbrev pub number_of : Trouble → ℕ
number_of TooLong = 10
number_of (Line fault) = (line_refusal fault).number
number_of OutOfPlace = 13
number_of NoSpace = 14
number_of Incomplete = 15
number_of (Map fault) = (map_refusal fault).number
number_of (Session fault) = (session_refusal fault).number

-- the number that is carried, else 0
abbrev pub carried_or_0 : Option ℕ → ℕ
carried_or_0 None = 0
carried_or_0 (Some n) = n

-- the field that is told: the first bad one of a line with a bad number, else 0
abbrev pub field_of : Trouble → ℕ
field_of TooLong = 0
field_of (Line fault) = carried_or_0 (line_refusal fault).carried
field_of OutOfPlace = 0
field_of NoSpace = 0
field_of Incomplete = 0
field_of (Map fault) = 0
field_of (Session fault) = 0
