use Rattle.std.proofs.Common.{◌≡◌, ◌^◌, ◌<◌, ap, ◌∙◌, arith, below_more, rules}
use Rattle.writing.proofs.Joins.{put_same}
use Rattle.saving.specs.Texts.{marks_of}
use Rattle.saving.proofs.Lines.{state_at, all_states}
use Rattle.saving.proofs.Pieces.{pieces, put_short}
use Rattle.saving.proofs.maps.put_states.Goals as goal

pub returns-in_err-put_state-clause-put : goal.returns-in_err-put_state-clause-put
returns-in_err-put_state-clause-put g c =
    let m = g.M.Map.meaning c.args.map.now in
    put_same (all_states m m.size) (put_short g.met.S.Sink.laws (state_at m) c.loop-s.s m.size (omega arith) c.loop-s.invariant.1 c.in_err-put_state.ensures.put c.from_residual.ensures.0)

pub returns : goal.returns
returns g c =
    let m = g.M.Map.meaning c.args.map.now in
    let all : c.loop-s.s ≡ m.size = omega arith in
    record {
      fit = λ s h. c.loop-s.invariant.0 s (omega arith);
      put = put_same (ap (pieces (state_at m)) all ∙ all_states m m.size) c.loop-s.invariant.1;
    }
