-- The refusals of a joint map, each with its number; neither carries a value. Assumes nothing.
use Rattle.std.specs.Prelude.{None}
use Rattle.map.specs.Questions.{Refusal}
use Rattle.joint.specs.declared.fault.JointFault.{JointFault}
use Rattle.joint.specs.declared.fault.JointFault.TheVariants.{TooManyStates, ListsTooLong}

-- what each refusal tells
abbrev pub refusal : JointFault → Refusal
refusal TooManyStates = record { number = 8; carried = None }
refusal ListsTooLong = record { number = 9; carried = None }
