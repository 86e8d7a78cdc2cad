use Rattle.std.proofs.Common.{arith}
use Rattle.std.proofs.lemmas.Grind.{common_steps}
use Rattle.text.proofs.Parting.{before_place, after_place}
use Rattle.text.proofs.split.split_first.Goals as goal

pub returns-in-Some-clause-first : goal.returns-in-Some-clause-first
returns-in-Some-clause-first c = grind (arith, common_steps, before_place c.args.at c.args.bytes.now)

pub returns-in-Some-clause-after : goal.returns-in-Some-clause-after
returns-in-Some-clause-after c = grind (arith, common_steps, after_place c.args.at c.args.bytes.now)

pub returns-in-None-clause-first : goal.returns-in-None-clause-first
returns-in-None-clause-first c = grind (arith, common_steps, before_place c.args.at c.args.bytes.now)

pub returns-in-None-clause-after : goal.returns-in-None-clause-after
returns-in-None-clause-after c = grind (arith, common_steps, after_place c.args.at c.args.bytes.now)
