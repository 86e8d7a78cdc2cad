use Rattle.std.proofs.Common.{sym, ◌∙◌, arith}
use Rattle.std.proofs.Math.Pow.{pow_mono}
use Rattle.std.proofs.lemmas.Bool.{le-leb, lt-ltb}
use Rattle.switches.proofs.judge.is_within.Goals as goal

-- every word is below 2 ^ 32
pub returns-then-n-ge32 : goal.returns-then-n-ge32
returns-then-n-ge32 c = le-leb 32 c.args.n c.if-n-ge32.true ∙ sym (lt-ltb _ _ (omega (arith, pow_mono c.if-n-ge32.true)))
