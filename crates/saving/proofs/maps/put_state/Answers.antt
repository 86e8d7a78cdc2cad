use Rattle.std.proofs.Common.{map, ap}
use Rattle.reader.specs.Texts.{written_text}
use Rattle.text.specs.declared.line.Line.TheVariants.{State, Target}
use Rattle.writing.proofs.Joins.{put_same, put_then, put_stop}
use Rattle.saving.specs.Texts.{ended, marks_of, start_of}
use Rattle.saving.proofs.Lines.{text_more}
use Rattle.saving.proofs.maps.put_state.Goals as goal

pub returns-clause-put : goal.returns-clause-put
returns-clause-put g c =
    let m = g.M.Map.meaning c.args.map.now in
    put_same (text_more (State (marks_of (m.look c.args.s)) (start_of (m.start c.args.s))) (map Target (m.list c.args.s)))
    (put_then g.met.S.Sink.laws (put_same (ap ended c.state_line.ensures.is) c.in_ok-put_into.ensures.put) c.put_targets.ensures)
