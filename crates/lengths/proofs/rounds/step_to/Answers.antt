use Rattle.std.proofs.Common.{rules, of_calls}
use Rattle.map.proofs.Searches.{told_pick}
use Rattle.lengths.proofs.rounds.step_to.Goals as goal

pub returns : goal.returns
returns g c = told_pick c.first_target.result c.first_target.ensures (λ off t m. let no = off t m in search (rules, of_calls)) (λ t m said. (m, search (rules, of_calls)))
