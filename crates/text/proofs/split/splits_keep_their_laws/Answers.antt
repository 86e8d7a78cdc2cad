use Rattle.text.proofs.Parting.{split_laws}
use Rattle.text.proofs.split.splits_keep_their_laws.Goals as goal

pub returns : goal.returns
returns c = split_laws
