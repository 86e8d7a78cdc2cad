use Rattle.std.proofs.Common.{rules}
use Rattle.map.specs.Meaning.{structure}
use Rattle.sharing.specs.Accepts.{class_of}
use Rattle.stl.specs.Structures.{Move}
use Rattle.map.proofs.Searches.{none_from, no_pick}
use Rattle.foldcheck.proofs.questions.Folding.moves_forth.Goals as goal

pub returns : goal.returns
returns g c =
    let f = c.args.self.now in
    let to = Move (structure g.F.L.Look.sign (g.G.Map.meaning f.folded.now)) (class_of f.classes.now c.args.s) in
    none_from c.is_none.ensures (no_pick _ _ (λ t. to (class_of f.classes.now t)) _ c.first_target.ensures (λ t b h. search rules))
