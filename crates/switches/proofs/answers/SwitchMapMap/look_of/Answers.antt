use Rattle.std.proofs.Common.{sym, ◌∙◌}
use Rattle.switches.proofs.Looks.{look_there}
use Rattle.switches.proofs.answers.SwitchMapMap.look_of.Goals as goal

pub returns-then-has : goal.returns-then-has
returns-then-has c =
    let m = c.args.self.now in
    sym (look_there m.fault m.panel m.commands.now c.args.s c.ranges.s.fits (sym c.has.ensures ∙ c.if-has.true))
