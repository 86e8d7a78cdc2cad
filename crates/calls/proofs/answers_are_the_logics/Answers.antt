use Rattle.calls.proofs.OneMap.{one_map}
use Rattle.calls.proofs.answers_are_the_logics.Goals as goal

pub returns : goal.returns
returns c = one_map
