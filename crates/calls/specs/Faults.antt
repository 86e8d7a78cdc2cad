-- The refusals of a session, each with its number; the last carries the length of the run. Assumes nothing.
use Rattle.std.specs.Prelude.{Some, None}
use Rattle.map.specs.Questions.{Refusal}
use Rattle.rules.specs.declared.fault.RuleFault.{RuleFault}
use Rattle.rules.specs.declared.fault.RuleFault.TheVariants as rule
use Rattle.calls.specs.declared.fault.SessionFault.{SessionFault}
use Rattle.calls.specs.declared.fault.SessionFault.TheVariants.{NoState, ShortSheet, TooManyRows, NamesLaterRow, NothingToMark, NoSuchState, NotMarked, NotUntil, ShortWork, NoRun, ShortRun}

abbrev pub refusal : SessionFault → Refusal
refusal NoState = record { number = 16; carried = None }
refusal ShortSheet = record { number = 17; carried = None }
refusal TooManyRows = record { number = 18; carried = None }
refusal NamesLaterRow = record { number = 19; carried = None }
refusal NothingToMark = record { number = 20; carried = None }
refusal NoSuchState = record { number = 21; carried = None }
refusal NotMarked = record { number = 22; carried = None }
refusal NotUntil = record { number = 23; carried = None }
refusal ShortWork = record { number = 24; carried = None }
refusal NoRun = record { number = 25; carried = None }
refusal (ShortRun n) = record { number = 26; carried = Some n }

-- the refusal of a rule list, as the session's
abbrev pub handed_on : RuleFault → SessionFault
handed_on rule.TooManyRows = TooManyRows
handed_on rule.NamesLaterRow = NamesLaterRow
