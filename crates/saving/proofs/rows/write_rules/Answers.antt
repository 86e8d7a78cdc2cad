use Rattle.std.proofs.Common.{take, arith}
use Rattle.std.proofs.lemmas.List.{length-take}
use Rattle.saving.proofs.RulesBack.{rules_read_back}
use Rattle.saving.proofs.rows.write_rules.Goals as goal

pub returns-clause-reads_back : goal.returns-clause-reads_back
returns-clause-reads_back c = let l = c.args.rules.now in rules_read_back (take l.len l.rows) (omega (arith, length-take l.len l.rows)) l.earlier
