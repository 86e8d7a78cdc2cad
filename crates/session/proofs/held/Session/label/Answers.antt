use Rattle.std.proofs.Common.{sym, ◌∙◌, arith}
use Rattle.calls.proofs.Given.{label_given}
use Rattle.session.proofs.held.Session.label.Goals as goal

pub returns : goal.returns
returns g c = label_given (omega arith) (omega arith) (omega arith) ((λ e. sym c.labelled.ensures ∙ e), (λ e. c.labelled.ensures ∙ e))
