use Rattle.reader.proofs.Endings.{text_laws}
use Rattle.reader.proofs.next.texts_keep_their_laws.Goals as goal

pub returns : goal.returns
returns c = text_laws
