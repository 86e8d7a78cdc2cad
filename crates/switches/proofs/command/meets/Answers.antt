use Rattle.std.proofs.Common.{◌&&◌, sym, ap, ◌∙◌}
use Rattle.std.proofs.lemmas.Bool.{eq-eqb, ne_eqb, and_left}
use Rattle.switches.specs.Masks.{all_off}
use Rattle.switches.proofs.Meets.{on_test, off_test}
use Rattle.switches.proofs.command.meets.Goals as goal

pub returns-then-s-on : goal.returns-then-s-on
returns-then-s-on c =
    off_test c.args.off c.args.s c.ranges.off.fits ∙ ap (λ b. b && all_off c.args.off c.args.s) (sym (eq-eqb _ _ c.if-s-on.true) ∙ on_test c.args.on c.args.s c.ranges.on.fits)

pub returns-else-s-on : goal.returns-else-s-on
returns-else-s-on c =
    let off = ne_eqb _ _ c.if-s-on.false in
    off ∙ sym (and_left _ _ (sym (on_test c.args.on c.args.s c.ranges.on.fits) ∙ off))
