use Rattle.std.proofs.Common.{◌≡◌, rules, of_calls}
use Rattle.map.proofs.Searches.{same_target, some_pick}
use Rattle.map.proofs.read.moves_to.Goals as goal

pub returns : goal.returns
returns g c = rw c.is_some.ensures (same_target ((g.M.Map.meaning c.args.map.now).list c.args.s) c.args.t (some_pick _ _ (λ x. x ≡ c.args.t) _ c.first_target.ensures (λ x b h. search (rules, of_calls))))
