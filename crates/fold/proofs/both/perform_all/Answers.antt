use Rattle.std.proofs.Common.{arith}
use Rattle.sharing.proofs.Both.{after_all}
use Rattle.fold.proofs.Playing.{played_all}
use Rattle.fold.proofs.both.perform_all.Goals as goal

pub returns-clause-both : goal.returns-clause-both
returns-clause-both g c = after_all g.F.L.Look.sign g.F.L.Look.same g.met.F.L.Look.agree _ _ _ (g.F.Map.bounded c.args.full.now.map.now) (g.G.Map.bounded c.args.folded.now.map.now) (played_all (omega arith) c.play.ensures.told)
