use Rattle.std.proofs.Common.{◌≡◌, Ok, length, sym, ◌∙◌, arith, rules}
use Rattle.calls.proofs.OneMap.{all_right}
use Rattle.map.proofs.Moves.{well_formed}
use Rattle.map.specs.Meaning.{structure}
use Rattle.session.specs.Sessions.{state}
use Rattle.checking.proofs.Maps.{opened, told_fault, told_report, wrote}
use Rattle.checking.proofs.check.check_map.Goals as goal

pub write_report-requires-clause-kept : goal.write_report-requires-clause-kept
write_report-requires-clause-kept g c =
    let m = g.M.Map.meaning c.args.map.now in
    c.read_rules.ensures.keeps (all_right (structure g.M.L.Look.sign m) (well_formed g.M.L.Look.sign m (g.M.Map.bounded c.args.map.now)) c.in_ok-session.ensures.begins).1

pub returns-in_err-map_err : goal.returns-in_err-map_err
returns-in_err-map_err g c =
    let k = structure g.M.L.Look.sign (g.M.Map.meaning c.args.map.now) in
    let o = opened k c.args.sheet.now c.open.new.sheet (state c.in_ok-session.session) c.in_ok-session.ensures.opens in
    let long : length c.open.new.sheet ≡ 1024 = omega arith in
    let fault = told_fault k c.args.rules.now o.1 _ _ long o.0 in
    search (rules, fault)

pub returns : goal.returns
returns g c =
    let k = structure g.M.L.Look.sign (g.M.Map.meaning c.args.map.now) in
    let o = opened k c.args.sheet.now c.open.new.sheet (state c.in_ok-session.session) c.in_ok-session.ensures.opens in
    let long : length c.open.new.sheet ≡ 1024 = omega arith in
    let ok : c.read_rules.result ≡ Ok tt = search rules in
    wrote (told_report k c.args.rules.now o.1 _ _ long o.0 tt (state c.read_rules.new.session) (sym ok ∙ c.read_rules.ensures.answer) c.read_rules.ensures.kept) c.write_report.ensures
