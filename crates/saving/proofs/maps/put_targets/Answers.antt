use Rattle.std.proofs.Common.{◌≡◌, length, ap, ◌∙◌, arith}
use Rattle.text.specs.declared.line.Line.TheVariants.{Target}
use Rattle.writing.proofs.Joins.{put_same}
use Rattle.saving.proofs.Lines.{line_at, all_lines}
use Rattle.saving.proofs.Pieces.{pieces, put_short}
use Rattle.saving.proofs.maps.put_targets.Goals as goal

pub returns-in_err-put_target : goal.returns-in_err-put_target
returns-in_err-put_target g c =
    let list = (g.M.Map.meaning c.args.map.now).list c.args.s in
    put_same (all_lines Target 0 list) (put_short g.met.S.Sink.laws (line_at Target 0 list) c.loop-k.k (length list) (omega arith) c.loop-k.invariant c.in_err-put_target.ensures c.from_residual.ensures.0)

pub returns : goal.returns
returns g c =
    let list = (g.M.Map.meaning c.args.map.now).list c.args.s in
    let all : c.loop-k.k ≡ length list = omega arith in
    put_same (ap (pieces (line_at Target 0 list)) all ∙ all_lines Target 0 list) c.loop-k.invariant
