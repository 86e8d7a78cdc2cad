use Rattle.std.proofs.Common.{length, rules, of_calls}
use Rattle.map.proofs.Count.{lowest_as}
use Rattle.listed.specs.Tables.{right_first}
use Rattle.listed.proofs.judge.wrong_first.Goals as goal

pub returns : goal.returns
returns c = lowest_as (right_first c.args.firsts.now c.args.count) (length c.args.firsts.now) c.lowest_no.result c.lowest_no.ensures (λ i h said. search (rules, of_calls)) (λ i h said. search (rules, of_calls))
