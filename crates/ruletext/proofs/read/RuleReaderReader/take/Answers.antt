use Rattle.std.proofs.Common.{length, sym, ap, ◌∙◌, rules}
use Rattle.calls.proofs.Keeping.{kept_after}
use Rattle.calls.specs.Effects.{alone}
use Rattle.map.proofs.Moves.{well_formed}
use Rattle.map.specs.Meaning.{structure}
use Rattle.session.specs.Sessions.{state}
use Rattle.ruletext.specs.RuleTexts.{rule_step}
use Rattle.ruletext.proofs.Adding.{added_by}
use Rattle.ruletext.proofs.read.RuleReaderReader.take.Goals as goal

pub returns-in_err-add-clause-taken : goal.returns-in_err-add-clause-taken
returns-in_err-add-clause-taken g c =
    let r = c.args.self.now in
    let e = added_by r.sheet.now c.add.result c.add.ensures ∙ sym (ap (rule_step (structure g.M.L.Look.sign (g.M.Map.meaning r.map.now)) (length r.sheet.now) (state r.session.now)) c.in-Rule.is) in
    search rules

pub returns-in_err-add-clause-sound : goal.returns-in_err-add-clause-sound
returns-in_err-add-clause-sound g c = λ kept.
    let r = c.args.self.now in
    let m = g.M.Map.meaning r.map.now in
    kept_after (structure g.M.L.Look.sign m) (well_formed g.M.L.Look.sign m (g.M.Map.bounded r.map.now)) (state r.session.now) (alone r.sheet.now) kept _ _ _ _ c.add.ensures

pub returns-in_ok-add-clause-taken : goal.returns-in_ok-add-clause-taken
returns-in_ok-add-clause-taken g c =
    let r = c.args.self.now in
    let e = added_by r.sheet.now c.add.result c.add.ensures ∙ sym (ap (rule_step (structure g.M.L.Look.sign (g.M.Map.meaning r.map.now)) (length r.sheet.now) (state r.session.now)) c.in-Rule.is) in
    search rules

pub returns-in_ok-add-clause-sound : goal.returns-in_ok-add-clause-sound
returns-in_ok-add-clause-sound g c = λ kept.
    let r = c.args.self.now in
    let m = g.M.Map.meaning r.map.now in
    kept_after (structure g.M.L.Look.sign m) (well_formed g.M.L.Look.sign m (g.M.Map.bounded r.map.now)) (state r.session.now) (alone r.sheet.now) kept _ _ _ _ c.add.ensures
