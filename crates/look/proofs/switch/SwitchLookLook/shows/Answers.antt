use Rattle.std.proofs.Common.{◌∙◌, ap₂, arith}
use Rattle.look.specs.Bits.{bit_on}
use Rattle.look.proofs.Bits.{bit_within}
use Rattle.look.proofs.switch.SwitchLookLook.shows.Goals as goal

pub returns : goal.returns
returns c = c.is_on.ensures ∙ ap₂ bit_on c.from.ensures c.from-2.ensures ∙ bit_within 32 c.args.self.now.marks c.args.k (omega arith)
