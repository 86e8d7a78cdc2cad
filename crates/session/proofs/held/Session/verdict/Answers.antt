use Rattle.std.proofs.Common.{arith}
use Rattle.calls.proofs.Given.{verdict_given}
use Rattle.session.proofs.held.Session.verdict.Goals as goal

pub returns : goal.returns
returns g c = verdict_given (omega arith) (omega arith) c.all_starts.ensures
