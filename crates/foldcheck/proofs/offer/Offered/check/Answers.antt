use Rattle.std.proofs.Common.{◌≡◌, None, rules, sym}
use Rattle.sharing.specs.Accepts.{Accepts}
use Rattle.sharing.proofs.Chains.{folds_stand}
use Rattle.foldcheck.proofs.Verdicts.{wrong_length}
use Rattle.foldcheck.proofs.offer.Offered.check.Goals as goal

pub returns-in_err-fold-clause-verdict : goal.returns-in_err-fold-clause-verdict
returns-in_err-fold-clause-verdict g c = search (rules, wrong_length)

pub returns-clause-share : goal.returns-clause-share
returns-clause-share g c =
    let f = c.in_ok-fold.fold in
    let at_full : f.full.now ≡ c.args.full.now = search rules in
    let at_folded : f.folded.now ≡ c.args.folded.now = search rules in
    let at_table : f.classes.now ≡ c.args.self.table.now = search rules in
    let accepts : Accepts g.F.L.Look.sign g.F.L.Look.same (g.F.Map.meaning f.full.now) (g.G.Map.meaning f.folded.now) f.classes.now = (c.in_ok-ask.ensures None).1 (search rules) in
    (folds_stand _ _ g.met.F.L.Look.agree _ _ _ (g.F.Map.bounded c.args.full.now) (g.G.Map.bounded c.args.folded.now) (rw (sym at_full, sym at_folded, sym at_table) accepts)).1
