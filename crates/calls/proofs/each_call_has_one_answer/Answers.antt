use Rattle.calls.proofs.Unique.{one_answer}
use Rattle.calls.proofs.each_call_has_one_answer.Goals as goal

pub returns : goal.returns
returns c = one_answer
