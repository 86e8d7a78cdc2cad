use Rattle.text.proofs.Writing.{line_laws}
use Rattle.text.proofs.line.lines_keep_their_laws.Goals as goal

pub returns : goal.returns
returns c = line_laws
