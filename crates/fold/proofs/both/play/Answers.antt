use Rattle.std.proofs.Common.{rules, sym, arith}
use Rattle.calls.specs.declared.call.Call.TheVariants.{Add}
use Rattle.stl.specs.declared.row.Row.TheVariants.{True}
use Rattle.fold.proofs.Playing.{lent_still, told_none, told_more}
use Rattle.fold.proofs.both.play.Goals as goal

pub loop-i-init : goal.loop-i-init
loop-i-init g c = (told_none, search rules, search rules)

pub loop-i-preserved : goal.loop-i-preserved
loop-i-preserved g c =
    let so = c.loop-i.invariant in
    let now = c.perform_both.ensures in (
      told_more (Add True) so.0 c.loop-i-test.true (omega arith)
          (rw (sym so.1.map) now.full) now.same_full.lengths
          (rw (sym so.2.map) now.folded) now.same_folded.lengths,
      lent_still so.1 now.same_full,
      lent_still so.2 now.same_folded,
    )
