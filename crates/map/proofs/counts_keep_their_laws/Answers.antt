use Rattle.map.proofs.Count.{count_laws}
use Rattle.map.proofs.counts_keep_their_laws.Goals as goal

pub returns : goal.returns
returns c = count_laws
