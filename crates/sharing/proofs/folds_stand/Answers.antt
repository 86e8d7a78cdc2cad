use Rattle.sharing.proofs.Chains.{folds_stand}
use Rattle.sharing.proofs.folds_stand.Goals as goal

pub returns : goal.returns
returns g c = folds_stand g.L.Look.sign g.L.Look.same g.met.L.Look.agree
