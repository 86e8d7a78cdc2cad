use Rattle.std.proofs.Common.{◌≡◌, length, take, ap, ◌∙◌, arith}
use Rattle.stl.specs.declared.row.Row.TheVariants.{True}
use Rattle.text.specs.declared.line.Line.TheVariants.{Rule}
use Rattle.writing.proofs.Joins.{put_same}
use Rattle.saving.proofs.Lines.{line_at, all_lines}
use Rattle.saving.proofs.Pieces.{pieces, put_short}
use Rattle.saving.proofs.rows.RuleTextText.put_into.Goals as goal

pub returns-in_err-put_row-clause-put : goal.returns-in_err-put_row-clause-put
returns-in_err-put_row-clause-put g c =
    let list = c.args.self.now.0.now in
    let rows = take list.len list.rows in
    put_same (all_lines Rule True rows) (put_short g.met.S.Sink.laws (line_at Rule True rows) c.loop-r.r (length rows) (omega arith) c.loop-r.invariant c.in_err-put_row.ensures c.from_residual.ensures.0)

pub returns-clause-put : goal.returns-clause-put
returns-clause-put g c =
    let list = c.args.self.now.0.now in
    let rows = take list.len list.rows in
    let all : c.loop-r.r ≡ length rows = omega arith in
    put_same (ap (pieces (line_at Rule True rows)) all ∙ all_lines Rule True rows) c.loop-r.invariant
