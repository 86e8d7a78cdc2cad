use Rattle.std.proofs.Common.{arith}
use Rattle.std.proofs.lemmas.Grind.{common_steps}
use Rattle.reader.proofs.Endings.{lines_few}
use Rattle.maptext.proofs.read.target_line.Goals as goal

pub loop-said-init : goal.loop-said-init
loop-said-init c = grind (arith, common_steps, lines_few c.args.text.now)
