use Rattle.std.proofs.Common.{rules, of_calls}
use Rattle.calls.proofs.Given.{beside, asked_as, told_as}
use Rattle.calls.specs.declared.call.Answer.TheVariants as answer
use Rattle.session.specs.Sessions.{answered, marking}
use Rattle.session.proofs.held.Session.make.Goals as goal

pub returns-in-Add : goal.returns-in-Add
returns-in-Add g c =
    told_as (answered answer.Added c.add-outcome.result) (search (rules, of_calls))
    (asked_as c.in-Add.is (beside _ _ c.args.sheet.now c.args.sheet.now c.args.work.now c.args.run.now _ _ _ tt c.add-outcome.ensures))

pub returns-in-Mark : goal.returns-in-Mark
returns-in-Mark g c =
    told_as (answered marking c.mark-outcome.result) (search (rules, of_calls))
    (asked_as c.in-Mark.is (beside _ _ c.args.sheet.now c.mark-outcome.new.sheet c.args.work.now c.args.run.now _ _ _ tt c.mark-outcome.ensures.gives))

pub returns-in-Label : goal.returns-in-Label
returns-in-Label g c =
    told_as (answered answer.Label c.label-outcome.result) (search (rules, of_calls))
    (asked_as c.in-Label.is (beside _ _ c.args.sheet.now c.args.sheet.now c.args.work.now c.args.run.now _ _ _ tt c.label-outcome.ensures))

pub returns-in-Verdict : goal.returns-in-Verdict
returns-in-Verdict g c =
    told_as (answered answer.Verdict c.verdict-outcome.result) (search (rules, of_calls))
    (asked_as c.in-Verdict.is (beside _ _ c.args.sheet.now c.args.sheet.now c.args.work.now c.args.run.now _ _ _ tt c.verdict-outcome.ensures))
