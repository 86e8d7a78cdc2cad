use Rattle.std.proofs.Common.{◌+◌, drop, arith}
use Rattle.writing.proofs.Joins.{put_same, put_then, put_stop}
use Rattle.report.specs.Texts.{report_from}
use Rattle.report.proofs.Putting.{text_more, text_rest}
use Rattle.report.proofs.lines.ReportText.put_into.Goals as goal

pub loop-r-preserved : goal.loop-r-preserved
loop-r-preserved g c = put_same (text_more c.args.self.now.finds.now c.loop-r.r (omega arith)) (put_then g.met.S.Sink.laws c.loop-r.invariant c.in_ok-put_found.ensures)

pub returns-in_err-put_found-clause-put : goal.returns-in_err-put_found-clause-put
returns-in_err-put_found-clause-put g c =
    let finds = c.args.self.now.finds.now in
    let r = c.loop-r.r in
    put_same (text_rest finds r (omega arith))
    (put_then g.met.S.Sink.laws c.loop-r.invariant (put_stop g.met.S.Sink.laws (report_from (r + 1) (drop (r + 1) finds)) c.in_err-put_found.ensures c.from_residual.ensures.0))
