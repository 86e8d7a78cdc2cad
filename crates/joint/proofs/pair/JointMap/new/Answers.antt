use Rattle.std.proofs.Common.{sym, refl, ◌∙◌}
use Rattle.joint.proofs.Caps.{uncapped}
use Rattle.joint.proofs.Numbers.{numbered}
use Rattle.joint.proofs.pair.JointMap.new.Goals as goal

pub returns : goal.returns
returns g c = record { left = refl; right = refl; fault = c.pair_fault-fault.ensures; uncapped = λ e. uncapped _ _ (sym c.pair_fault-fault.ensures ∙ e); numbered = numbered _ _ }
