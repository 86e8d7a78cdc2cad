use Rattle.std.proofs.Common.{◌+◌, [], ◌∷◌}
use Rattle.writing.proofs.Fields.{fields_from, one_field, no_field}
use Rattle.writing.proofs.Joins.{put_same, put_then, put_stop}
use Rattle.writing.proofs.line.put_fields.Goals as goal

pub loop-n-preserved : goal.loop-n-preserved
loop-n-preserved g c = λ r u p. c.loop-n.invariant r u (put_same (one_field (10 ∷ []) c.args.numbers.now c.loop-n.n-index c.loop-n-test.true) (put_then g.met.S.Sink.laws c.in_ok-put_field.ensures p))

pub returns-in_err-put_field : goal.returns-in_err-put_field
returns-in_err-put_field g c = c.loop-n.invariant _ _
    (put_same (one_field (10 ∷ []) c.args.numbers.now c.loop-n.n-index c.loop-n-test.true)
    (put_stop g.met.S.Sink.laws (fields_from (10 ∷ []) c.args.numbers.now (c.loop-n.n-index + 1)) c.in_err-put_field.ensures c.from_residual-in_err-put_field.ensures.0))

pub returns : goal.returns
returns g c = c.loop-n.invariant _ _ (put_same (no_field (10 ∷ []) c.args.numbers.now c.loop-n.n-index c.loop-n-test.false) c.put-2.ensures.put)
