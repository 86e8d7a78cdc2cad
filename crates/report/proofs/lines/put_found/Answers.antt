use Rattle.writing.proofs.Joins.{put_same, put_then}
use Rattle.report.proofs.Putting.{line_parts}
use Rattle.report.proofs.lines.put_found.Goals as goal

pub returns : goal.returns
returns g c =
    let l = g.met.S.Sink.laws in
    put_same (line_parts c.args.r c.args.found)
    (put_then l c.in_ok-put.ensures.put
    (put_then l c.in_ok-put_number.ensures.put
    (put_then l (put_same c.word_of.ensures c.in_ok-put-2.ensures.put)
    (put_then l c.in_ok-put_number-2.ensures.put c.put-3.ensures.put))))
