-- The refusals of a fold, each with its number; all but the first carry a state. Assumes nothing.
use Rattle.std.specs.Prelude.{Some, None}
use Rattle.map.specs.Questions.{Refusal}
use Rattle.foldcheck.specs.declared.fault.FoldFault.{FoldFault}
use Rattle.foldcheck.specs.declared.fault.FoldFault.TheVariants.{WrongLength, NoClass, OtherLook, MoveLost, MoveAdded, StartLost, StartAdded, NotAClass}

-- what each refusal tells
abbrev pub refusal : FoldFault → Refusal
refusal WrongLength = record { number = 27; carried = None }
refusal (NoClass s) = record { number = 28; carried = Some s }
refusal (OtherLook s) = record { number = 29; carried = Some s }
refusal (MoveLost s) = record { number = 30; carried = Some s }
refusal (MoveAdded s) = record { number = 31; carried = Some s }
refusal (StartLost s) = record { number = 32; carried = Some s }
refusal (StartAdded d) = record { number = 33; carried = Some d }
refusal (NotAClass d) = record { number = 34; carried = Some d }
