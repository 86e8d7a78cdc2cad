use Rattle.std.proofs.Common.{rules, of_calls}
use Rattle.lengths.specs.Sheets.{by_sheet}
use Rattle.map.proofs.Searches.{some_pick}
use Rattle.marking.proofs.rows.some_move.Goals as goal

pub returns : goal.returns
returns g c = rw c.is_some.ensures (some_pick _ _ (by_sheet c.args.sheet.now c.args.a) _ c.first_target.ensures (λ t b h. search (rules, of_calls)))
