use Rattle.script.proofs.Commands.{ended}
use Rattle.script.proofs.read.command_inside.Goals as goal

pub returns : goal.returns
returns c = rw c.then_some.ensures (ended c.args.inside.now c.args.at c.in_ok-command.command c.command.new.self.at c.in_ok-command.ensures.value)
