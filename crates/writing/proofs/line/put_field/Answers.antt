use Rattle.writing.proofs.Joins.{put_then}
use Rattle.writing.proofs.line.put_field.Goals as goal

pub returns : goal.returns
returns g c = put_then g.met.S.Sink.laws c.in_ok-put.ensures.put c.put_number.ensures.put
