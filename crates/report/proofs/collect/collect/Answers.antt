use Rattle.std.proofs.Common.{◌<◌, ◌≢◌, length, arith, get_or-set_other, get_or-set_same, below_more}
use Rattle.report.proofs.collect.collect.Goals as goal

pub loop-r-preserved : goal.loop-r-preserved
loop-r-preserved g c =
    below_more _ _
    (λ q h. let ne : q ≢ c.loop-r.r = omega arith in rw get_or-set_other (c.loop-r.invariant q h))
    (let lt : c.loop-r.r < length c.loop-r.finds = omega arith in rw get_or-set_same c.found_of.ensures)
