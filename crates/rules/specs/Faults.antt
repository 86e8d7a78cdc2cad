-- The refusals of a rule list, each with its number; none carries more. Assumes nothing.
use Rattle.std.specs.Prelude.{None}
use Rattle.map.specs.Questions.{Refusal}
use Rattle.rules.specs.declared.fault.RuleFault.{RuleFault}
use Rattle.rules.specs.declared.fault.RuleFault.TheVariants.{TooManyRows, NamesLaterRow}

abbrev pub refusal : RuleFault → Refusal
refusal TooManyRows = record { number = 18; carried = None }
refusal NamesLaterRow = record { number = 19; carried = None }
