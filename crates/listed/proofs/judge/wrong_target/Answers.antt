use Rattle.std.proofs.Common.{length, rules, of_calls}
use Rattle.map.proofs.Count.{lowest_as}
use Rattle.listed.specs.Tables.{right_target}
use Rattle.listed.proofs.judge.wrong_target.Goals as goal

pub returns : goal.returns
returns c = lowest_as (right_target c.args.targets.now c.args.size) (length c.args.targets.now) c.lowest_no.result c.lowest_no.ensures (λ i h said. search (rules, of_calls)) (λ i h said. search (rules, of_calls))
