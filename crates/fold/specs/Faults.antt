-- The refusals of a chain, each with its number; neither carries a value. Assumes nothing.
use Rattle.std.specs.Prelude.{None}
use Rattle.map.specs.Questions.{Refusal}
use Rattle.fold.specs.declared.fault.ChainFault.{ChainFault}
use Rattle.fold.specs.declared.fault.ChainFault.TheVariants.{WrongLength, NoEntry}

-- what each refusal tells
abbrev pub refusal : ChainFault → Refusal
refusal WrongLength = record { number = 35; carried = None }
refusal NoEntry = record { number = 36; carried = None }
