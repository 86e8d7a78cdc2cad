use Rattle.std.proofs.Common.{rules}
use Rattle.switches.proofs.Meets.{turned}
use Rattle.switches.proofs.command.Command.target.Goals as goal

pub returns : goal.returns
returns c = turned c.args.s c.args.self.turn_on c.args.self.turn_off (search rules) (search rules) (search rules)
