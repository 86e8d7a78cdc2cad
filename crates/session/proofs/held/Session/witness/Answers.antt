use Rattle.std.proofs.Common.{arith}
use Rattle.calls.proofs.Given.{witness_not_until, witness_short_work, witness_given}
use Rattle.session.proofs.held.Session.witness.Goals as goal

pub returns-in_default : goal.returns-in_default
returns-in_default g c = witness_not_until (omega arith) (omega arith) (omega arith) c.in_default.ensures

pub returns-then-work-n : goal.returns-then-work-n
returns-then-work-n g c = witness_short_work (omega arith) (omega arith) (omega arith) c.in-Some.ensures (omega arith)

pub show_run-requires : goal.show_run-requires
show_run-requires g c =
    record { state = omega arith; entries = omega arith }

pub returns : goal.returns
returns g c = witness_given (omega arith) (omega arith) (omega arith) c.in-Some.ensures (omega arith) c.show_run.ensures.found c.show_run.ensures.sought
