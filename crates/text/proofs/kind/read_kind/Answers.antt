use Rattle.std.proofs.Common.{arith}
use Rattle.std.proofs.lemmas.Grind.{common_steps}
use Rattle.text.proofs.kind.read_kind.Goals as goal

pub returns-in-until : goal.returns-in-until
returns-in-until c = grind (arith, common_steps)
