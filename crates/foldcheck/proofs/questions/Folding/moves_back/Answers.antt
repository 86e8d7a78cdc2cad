use Rattle.std.proofs.Common.{rules}
use Rattle.foldcheck.specs.Questions.{MovesInto}
use Rattle.map.proofs.Searches.{none_from, no_pick}
use Rattle.foldcheck.proofs.questions.Folding.moves_back.Goals as goal

pub returns : goal.returns
returns g c =
    let f = c.args.self.now in
    none_from c.is_none.ensures (no_pick _ _ (MovesInto g.F.L.Look.sign (g.F.Map.meaning f.full.now) f.classes.now c.args.s) _ c.first_target.ensures (λ d b h. search rules))
