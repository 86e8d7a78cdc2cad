use Rattle.std.proofs.Common.{◌≡◌, ◌<◌, ◌^◌, drop}
use Rattle.text.specs.Numbers.{number_of}
use Rattle.text.proofs.Numerals.{read_on}
use Rattle.text.proofs.number.read_number.Given as goal

abbrev pub invariant-loop-b : goal.invariant-loop-b
invariant-loop-b l = (l.value < 2 ^ 32) × (read_on l.value (drop l.b-index l.field) ≡ number_of l.field)
