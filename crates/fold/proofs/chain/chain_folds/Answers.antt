use Rattle.std.proofs.Common.{subst₂}
use Rattle.sharing.proofs.Chains.{chains_stand}
use Rattle.fold.specs.Chaining.{Chained}
use Rattle.fold.proofs.Chaining.{joins}
use Rattle.fold.proofs.chain.chain_folds.Goals as goal

pub returns : goal.returns
returns g c =
    let before = c.args.out.now in
    let after = c.chain.new.out in
    let r = c.chain.result in
    let written = subst₂ (λ first second. Chained first second before r after) c.classes.ensures c.classes-2.ensures c.chain.ensures in
    let laws = g.met.L.Look in
    record {
      chained = written;
      joins = joins g.L.Look.sign g.L.Look.same laws.transitive laws.agree _ _ before after r written;
      stands = chains_stand g.L.Look.sign g.L.Look.same laws.transitive laws.agree;
    }
