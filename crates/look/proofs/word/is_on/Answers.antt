use Rattle.std.proofs.Common.{not, eqb, ap, ◌∙◌, arith}
use lib.Bits.{bit_and}
use Rattle.look.proofs.Bits.{masked_within}
use Rattle.look.proofs.word.is_on.Goals as goal

pub returns : goal.returns
returns c = ap (λ mask. not (eqb (bit_and c.args.word mask) 0)) c.unwrap_or.ensures ∙ masked_within c.args.word c.args.j _ (omega arith) c.checked_shl.ensures
