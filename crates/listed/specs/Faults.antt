-- The refusals of a listed map, each with its number and the entry that it carries. Assumes nothing.
use Rattle.std.specs.Prelude.{Some, None}
use Rattle.map.specs.Questions.{Refusal}
use Rattle.listed.specs.declared.fault.ListedFault.{ListedFault}
use Rattle.listed.specs.declared.fault.ListedFault.TheVariants.{TooManyLooks, WrongLengths, WrongFirst, WrongTarget}

abbrev pub refusal : ListedFault → Refusal
refusal TooManyLooks = record { number = 1; carried = None }
refusal WrongLengths = record { number = 2; carried = None }
refusal (WrongFirst i) = record { number = 3; carried = Some i }
refusal (WrongTarget i) = record { number = 4; carried = Some i }
