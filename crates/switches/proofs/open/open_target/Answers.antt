use Rattle.std.proofs.Common.{rules, tests, sym, ◌∙◌}
use Rattle.std.proofs.lemmas.Iterator.{YieldsList-from_slice, YieldsList-from_map}
use Rattle.std.proofs.lemmas.Iterator.Adapters.{option_map_id}
use Rattle.std.proofs.lemmas.Iterator.Consumers.{nth_from_yields_List, YieldsList-at, YieldsList-from_filter}
use Rattle.switches.specs.Commands.{is_open, target_of}
use Rattle.switches.proofs.open.open_target.Goals as goal

pub returns : goal.returns
returns c =
    sym (option_map_id c.nth.result)
    ∙ nth_from_yields_List c.nth.result _ c.args.k c.nth.ensures.ran
    (YieldsList-from_map _ (λ x. target_of x c.args.s)
    (YieldsList-at c.map.ensures.source
    (YieldsList-from_filter _ (λ x. is_open x c.args.s) (YieldsList-from_slice c.args.commands.now cc) c.filter-open.ensures.closure (λ x b q k. search (rules, tests))))
    c.map.ensures.closure (λ x r q k. search (rules, tests)))
