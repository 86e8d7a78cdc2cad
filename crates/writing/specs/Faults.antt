-- The refusal of a text that is to be saved, with its number; it carries no more. Assumes nothing.
use Rattle.std.specs.Prelude.{None}
use Rattle.map.specs.Questions.{Refusal}
use Rattle.writing.specs.declared.fault.SaveFault.{SaveFault}
use Rattle.writing.specs.declared.fault.SaveFault.TheVariants.{NoRoom}

-- what the refusal tells
abbrev pub refusal : SaveFault → Refusal
refusal NoRoom = record { number = 37; carried = None }
