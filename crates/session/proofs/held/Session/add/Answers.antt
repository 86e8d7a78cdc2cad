use Rattle.std.proofs.Common.{sym, ◌∙◌, arith}
use Rattle.calls.proofs.Given.{add_given}
use Rattle.session.proofs.RowFacts.{row_added}
use Rattle.session.proofs.held.Session.add.Goals as goal

pub returns : goal.returns
returns g c =
    let x = c.args.self.now in
    let new = row_added x.rules c.add.new.self c.args.row c.in_ok-r.r (sym (c.in_ok-r.was) ∙ c.add.ensures.answer) c.add.ensures.rows in
    add_given (omega arith) new.number new.room new.names new.rows
