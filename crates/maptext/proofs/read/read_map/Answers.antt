use Rattle.std.proofs.Common.{◌≡◌, true, None, ap, ◌∙◌, rules}
use Rattle.reader.specs.Texts.{text_lines}
use Rattle.maptext.specs.Lent.{tables_in}
use Rattle.maptext.specs.MapTexts.{MapRead, complete, closed, all_taken, map_read}
use Rattle.maptext.specs.Readers.{reading_of}
use Rattle.maptext.proofs.Whole.{whole, held_closed}
use Rattle.maptext.proofs.read.read_map.Goals as goal

pub returns-clause-held : goal.returns-clause-held
returns-clause-held c =
    let text = c.args.text.now in
    let t = tables_in c.args.tables.now in
    let x = reading_of c.read_text.new.reader in
    let fine : (all_taken text t).fault ≡ None = search rules in
    let e : all_taken text t ≡ record { left = x; fault = None } = search rules in
    let all : complete x.at ≡ true = search rules in
    let w : (map_read text t).held ≡ closed x = ap (λ (r : MapRead). r.held) (whole text t x e all) ∙ held_closed (text_lines text) x in
    search rules
