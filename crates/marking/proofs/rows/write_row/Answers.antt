use Rattle.std.proofs.Common.{◌<◌, length, sym, subst, arith}
use Rattle.map.specs.Meaning.{structure}
use Rattle.marking.proofs.Labels.{timed_same, labelled_more}
use Rattle.marking.proofs.rows.write_row.Goals as goal

pub satisfied-b-requires : goal.satisfied-b-requires
satisfied-b-requires g c =
    let k = structure g.M.L.Look.sign (g.M.Map.meaning c.args.map.now) in
    record {
      state = omega arith;
      words = omega arith;
      entries = c.requires.entries;
      timed = subst (λ T. T) (sym (timed_same k c.loop-s.sheet c.args.sheet.now c.args.r c.loop-s.invariant.other c.args.row c.args.work.now c.requires.earlier)) c.requires.timed;
    }

pub loop-s-preserved : goal.loop-s-preserved
loop-s-preserved g c =
    let l : c.loop-s.s < length c.loop-s.sheet = omega arith in
    labelled_more c.with_bit.result c.loop-s.invariant l c.requires.earlier c.satisfied-b.ensures c.with_bit.ensures
