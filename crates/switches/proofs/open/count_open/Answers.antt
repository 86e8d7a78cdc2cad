use Rattle.std.proofs.Common.{rules, tests, cond, sym, ◌∙◌}
use Rattle.std.proofs.lemmas.List.{length-map}
use Rattle.std.proofs.lemmas.List.Sums.{length-filter}
use Rattle.std.proofs.lemmas.Iterator.{YieldsList-from_slice, YieldsList-from_map}
use Rattle.std.proofs.lemmas.Iterator.Consumers.{sum_by_from_yields_List}
use Rattle.switches.specs.Commands.{is_open}
use Rattle.switches.proofs.open.count_open.Goals as goal

pub returns : goal.returns
returns c =
    sum_by_from_yields_List (λ x. cond (is_open x c.args.s) 1 0) c.args.commands.now c.map.result c.sum.result c.sum.ensures.ran
    (YieldsList-from_map _ (λ x. cond (is_open x c.args.s) 1 0) (YieldsList-from_slice c.args.commands.now cc) c.map.ensures.closure (λ x r q k. search (rules, tests)))
    ∙ sym (length-filter (λ x. is_open x c.args.s) c.args.commands.now)
    ∙ sym (length-map _ _)
