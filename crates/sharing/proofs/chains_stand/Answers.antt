use Rattle.sharing.proofs.Chains.{chains_stand}
use Rattle.sharing.proofs.chains_stand.Goals as goal

pub returns : goal.returns
returns g c = chains_stand g.L.Look.sign g.L.Look.same g.met.L.Look.transitive g.met.L.Look.agree
