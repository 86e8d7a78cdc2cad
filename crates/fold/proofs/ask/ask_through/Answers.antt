use Rattle.std.proofs.Common.{subst}
use Rattle.calls.specs.Effects.{alone, Gives}
use Rattle.calls.specs.declared.call.Answer.TheVariants as answer
use Rattle.calls.specs.declared.call.Call.TheVariants as call
use Rattle.map.specs.Meaning.{structure}
use Rattle.session.specs.Sessions.{state, answered}
use Rattle.fold.proofs.Asking.{label_asked, speaks}
use Rattle.fold.proofs.ask.ask_through.Goals as goal

pub returns : goal.returns
returns g c =
    let m = g.G.Map.meaning c.args.folded.now in
    let k = structure g.G.L.Look.sign m in
    let st = state c.args.session.now in
    let sheet = c.args.sheet.now in
    let table = c.args.fold.now.table.now in
    let fits = g.G.Map.bounded c.args.folded.now in
    let given = subst (λ d. Gives k st (alone sheet) (call.Label d c.args.r) (answered answer.Label c.label.result) st (alone sheet)) c.class_or_none.ensures c.label.ensures in
    let label = label_asked k st sheet table c.args.s c.args.r fits.size_fits c.label.result given in
    record { label = label; logic = speaks g.G.L.Look.sign g.G.L.Look.same g.met.G.L.Look.agree m fits table st sheet c.args.s c.args.r c.label.result label }
