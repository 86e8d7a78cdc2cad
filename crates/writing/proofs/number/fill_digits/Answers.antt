use Rattle.std.proofs.Common.{arith, rules}
use Rattle.writing.proofs.Digits.{filling_first, room_left, filling_more}
use Rattle.writing.proofs.number.fill_digits.Goals as goal

pub loop-rest-init : goal.loop-rest-init
loop-rest-init c = filling_first c.args.n c.args.digits.now (omega arith) (search rules)

pub overflow_sub-first : goal.overflow_sub-first
overflow_sub-first c = let h = room_left c.args.n c.loop-rest.digits c.loop-rest.first c.loop-rest.rest (omega arith) c.loop-rest.invariant in omega arith

pub loop-rest-preserved : goal.loop-rest-preserved
loop-rest-preserved c = filling_more c.args.n c.loop-rest.digits c.loop-rest.first c.loop-rest.rest (omega arith) c.loop-rest.invariant
