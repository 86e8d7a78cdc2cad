use Rattle.std.proofs.Common.{◌≡◌, None, Ok, sym, ap, ◌∙◌, subst, rules}
use Rattle.listed.specs.Tables.{Tables, questions}
use Rattle.look.specs.Switch.{switch_sign}
use Rattle.look.specs.declared.switch.SwitchLook.{SwitchLook}
use Rattle.map.specs.Meaning.{Meaning, structure}
use Rattle.map.specs.Questions.{first_no}
use Rattle.maptext.proofs.Whole.{read_made}
use Rattle.maptext.specs.Lent.{tables_in}
use Rattle.maptext.specs.MapTexts.{part, map_read}
use Rattle.checking.specs.Outputs.{OfMap, blank}
use Rattle.checking.specs.Told.{Told}
use Rattle.checking.proofs.Maps.{read_well, told}
use Rattle.checking.proofs.Tables.{read_as}
use Rattle.checking.proofs.check.check_texts.Goals as goal

pub returns : goal.returns
returns c =
    let map = c.args.map.now in
    let size = c.in_ok-size.size in
    let t = tables_in c.read_map.new.tables in
    let ok : c.read_map.result ≡ Ok size = search rules in
    let answer : Ok size ≡ (map_read map blank).answer = sym ok ∙ c.read_map.ensures.answer ∙ ap (λ (b : Tables SwitchLook). (map_read map b).answer) c.requires.empty in
    let held : t ≡ (map_read map blank).held = c.read_map.ensures.held ∙ ap (λ (b : Tables SwitchLook). (map_read map b).held) c.requires.empty in
    let made = subst (λ (u : Tables SwitchLook). first_no (questions (part size u)) ≡ None) (sym held) (read_made size map blank (sym answer)) in
    let r = c.map.result in
    let e = c.map.ensures in
    told c.args.out.now c.check_map.new.out c.check_map.result (read_well map c.args.rules.now size t answer held)
    (subst (λ (m : Meaning SwitchLook). Told (OfMap (structure (λ look k. switch_sign look.marks k) m) c.args.rules.now) c.args.out.now c.check_map.new.out c.check_map.result)
    (read_as size t r.fault r.looks.now r.starts.now r.firsts.now r.targets.now (e.fault ∙ made) e.looks e.starts e.firsts e.targets)
    c.check_map.ensures)
