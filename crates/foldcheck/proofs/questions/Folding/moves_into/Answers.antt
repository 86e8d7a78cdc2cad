use Rattle.std.proofs.Common.{rules, ◌≡◌}
use Rattle.sharing.specs.Accepts.{class_of}
use Rattle.map.proofs.Searches.{some_pick}
use Rattle.foldcheck.proofs.questions.Folding.moves_into.Goals as goal

pub returns : goal.returns
returns g c = rw c.is_some.ensures (some_pick _ _ (λ t. class_of c.args.self.now.classes.now t ≡ c.args.d) _ c.first_target.ensures (λ t b h. search rules))
