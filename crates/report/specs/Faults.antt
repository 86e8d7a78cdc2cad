-- The refusals of a report, each with its number; none carries more. Assumes nothing.
use Rattle.std.specs.Prelude.{None}
use Rattle.map.specs.Questions.{Refusal}
use Rattle.report.specs.declared.fault.ReportFault.{ReportFault}
use Rattle.report.specs.declared.fault.ReportFault.TheVariants.{ShortSheet, NoRoom}

-- what a refusal tells
abbrev pub refusal : ReportFault → Refusal
refusal ShortSheet = record { number = 17; carried = None }
refusal NoRoom = record { number = 37; carried = None }
