use Rattle.std.proofs.Common.{◌≡◌, ◌-◌, ◌∷◌, length, subst, ap, arith, rules}
use Rattle.std.proofs.lemmas.Grind.{common_steps}
use Rattle.reader.specs.Texts.{text_lines}
use Rattle.reader.proofs.Endings.{lines_few}
use Rattle.reader.proofs.reading.read_text.Goals as goal

pub loop-said-init : goal.loop-said-init
loop-said-init g c = grind (arith, common_steps, lines_few c.args.text.now)

pub take_said-requires : goal.take_said-requires
take_said-requires g c =
    let l = c.loop-said in
    let first : text_lines l.said-iterator.0.now ≡ c.in-Some.said ∷ text_lines c.next.new.self.0.now = search rules in
    (60000 - l.line, subst (g.R.Reader.can_take (g.R.Reader.held l.reader)) (omega (arith, l.invariant.few, ap length first)) l.invariant.can_take)
