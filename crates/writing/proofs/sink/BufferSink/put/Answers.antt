use Rattle.std.proofs.Common.{arith}
use Rattle.writing.proofs.Over.{written_over, kept_before}
use Rattle.writing.proofs.sink.BufferSink.put.Goals as goal

pub returns-clause-put : goal.returns-clause-put
returns-clause-put c =
    let s = c.args.self.now in
    record {
      put = written_over s.out.ghost_name s.out.now c.args.bytes.now c.copy_from_slice.new.self s.at _ (omega arith) (omega arith) c.copy_from_slice.ensures.after;
      full = tt;
      kept = kept_before s.out.ghost_name s.out.now c.args.bytes.now c.copy_from_slice.new.self s.at _ (omega arith) (omega arith) c.copy_from_slice.ensures.after;
    }
