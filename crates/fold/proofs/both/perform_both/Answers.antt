use Rattle.std.proofs.Common.{refl, rules}
use Rattle.sharing.proofs.Both.{after_both}
use Rattle.sharing.proofs.Sharing.{folds_share}
use Rattle.fold.proofs.both.perform_both.Goals as goal

pub returns-clause-both : goal.returns-clause-both
returns-clause-both g c =
    let full = c.args.full.now.map.now in
    let folded = c.args.folded.now.map.now in
    after_both g.F.L.Look.sign g.F.L.Look.same g.met.F.L.Look.agree (g.F.Map.meaning full) (g.G.Map.meaning folded) c.args.fold.now.table.now (g.F.Map.bounded full) (g.G.Map.bounded folded) _ _ refl c.perform.ensures.gives (search rules)

pub returns-clause-always : goal.returns-clause-always
returns-clause-always g c = folds_share
