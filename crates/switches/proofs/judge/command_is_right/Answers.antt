use Rattle.std.proofs.Common.{rules}
use Rattle.switches.proofs.Meets.{off_test}
use Rattle.switches.proofs.judge.command_is_right.Goals as goal

pub returns : goal.returns
returns c =
    let apart = off_test c.args.c.turn_on c.args.c.turn_off (search rules) in
    cc
