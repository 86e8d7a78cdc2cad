use Rattle.stl.proofs.Folds.{keeps}
use Rattle.stl.proofs.folds_keep_rules.Goals as goal

pub returns : goal.returns
returns c = keeps
