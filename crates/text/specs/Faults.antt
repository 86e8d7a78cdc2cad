-- The refusals of a line, each with its number and the field that it carries. Assumes nothing.
use Rattle.std.specs.Prelude.{Some, None}
use Rattle.map.specs.Questions.{Refusal}
use Rattle.text.specs.declared.line.LineFault.{LineFault}
use Rattle.text.specs.declared.line.LineFault.TheVariants.{NotOfAForm, BadNumber}

-- what each refusal tells
abbrev pub refusal : LineFault → Refusal
refusal NotOfAForm = record { number = 11; carried = None }
refusal (BadNumber field) = record { number = 12; carried = Some field }
