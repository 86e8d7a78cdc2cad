use Rattle.std.proofs.Common.{◌∷◌, length, sym, ap, ◌∙◌, arith}
use Rattle.std.proofs.lemmas.Bool.{eqb-false}
use Rattle.reader.specs.Texts.{text_lines}
use Rattle.reader.proofs.Endings.{split_off, none_ended, ended_some}
use Rattle.reader.proofs.next.take_line.Goals as goal

pub returns-in-Some : goal.returns-in-Some
returns-in-Some c =
    let p = split_off c.args.text.now c.in-Some.line.now c.in-Some.rest.now c.in-Some.ensures in
    (p.0 ∙ ap (λ l. l ∷ text_lines c.in-Some.rest.now) (sym c.read_line.ensures), p.1)

pub returns-in-None-2 : goal.returns-in-None-2
returns-in-None-2 c =
    let ne = eqb-false (length c.args.text.now) 0 (sym c.if-is_empty.ensures) in
    (none_ended c.args.text.now c.in-None.ensures ∙ ended_some c.args.text.now ne, omega arith)
