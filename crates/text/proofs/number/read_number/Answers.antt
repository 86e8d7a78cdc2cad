use Rattle.std.proofs.Common.{sym, ◌∙◌}
use Rattle.text.proofs.Numerals.{read_stops}
use Rattle.text.proofs.number.read_number.Goals as goal

pub returns-in_err-value : goal.returns-in_err-value
returns-in_err-value c = c.from_residual.ensures ∙ sym (read_stops c.loop-b.value c.args.field.now c.loop-b.b-index c.loop-b-test.true (sym c.with_digit.ensures ∙ c.in_err-value.was)) ∙ c.loop-b.invariant.1
