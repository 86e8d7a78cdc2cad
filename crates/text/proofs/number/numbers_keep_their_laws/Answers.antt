use Rattle.text.proofs.Numerals.{number_laws}
use Rattle.text.proofs.number.numbers_keep_their_laws.Goals as goal

pub returns : goal.returns
returns c = number_laws
