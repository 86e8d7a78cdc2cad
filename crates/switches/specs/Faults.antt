-- The refusals of a switch map, each with its number; none carries more. Assumes nothing.
use Rattle.std.specs.Prelude.{None}
use Rattle.map.specs.Questions.{Refusal}
use Rattle.switches.specs.declared.fault.SwitchFault.{SwitchFault}
use Rattle.switches.specs.declared.fault.SwitchFault.TheVariants.{WrongSwitchCount, TooManyCommands, WrongMask}

abbrev pub refusal : SwitchFault → Refusal
refusal WrongSwitchCount = record { number = 5; carried = None }
refusal TooManyCommands = record { number = 6; carried = None }
refusal WrongMask = record { number = 7; carried = None }
