use Rattle.std.proofs.Common.{ap}
use Rattle.reader.specs.Texts.{written_text}
use Rattle.text.specs.declared.line.Line.TheVariants.{Map}
use Rattle.writing.proofs.Joins.{put_same, put_then, put_stop}
use Rattle.saving.specs.Texts.{ended, first_states}
use Rattle.saving.proofs.Lines.{text_more}
use Rattle.saving.proofs.maps.MapTextText.put_into.Goals as goal

pub returns-clause-put : goal.returns-clause-put
returns-clause-put g c =
    let m = g.M.Map.meaning c.args.self.now.0.now in
    put_same (text_more (Map m.size) (first_states m m.size))
    (put_then g.met.S.Sink.laws (put_same (ap (λ n. ended (Map n)) c.size.ensures) c.in_ok-put_into.ensures.put) c.put_states.ensures.put)
