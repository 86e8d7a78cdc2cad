use Rattle.std.proofs.Common.{not, sym, ap, ◌∙◌}
use lib.Bits.{bit_xor}
use Rattle.std.proofs.lemmas.Nat.{one_shl}
use Rattle.look.specs.Bits.{bit_on}
use Rattle.lengths.proofs.Words.{turned_bit, beq_false}
use Rattle.lengths.proofs.labels.with_bit.Goals as goal

pub returns-else-is_on-b : goal.returns-else-is_on-b
returns-else-is_on-b c j =
    ap (λ m. bit_on (bit_xor c.args.word m) j) (one_shl c.args.r 64 c.requires) ∙ turned_bit c.args.word c.args.r c.args.b (ap not (sym c.is_on.ensures) ∙ beq_false _ _ c.if-is_on-b.false) j
