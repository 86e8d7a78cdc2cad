use Rattle.std.proofs.Common.{arith, rules}
use Rattle.calls.proofs.Clearing.{begun}
use Rattle.session.proofs.held.Session.open.Goals as goal

pub returns : goal.returns
returns g c = record { opens = search rules; begins = begun _ _ _ _ c.new.ensures (omega arith) (omega arith) c.clear.ensures }
