use Rattle.sharing.proofs.Sharing.{folds_share}
use Rattle.sharing.proofs.folds_share.Goals as goal

pub returns : goal.returns
returns c = folds_share
