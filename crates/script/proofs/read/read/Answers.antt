use Rattle.std.proofs.Common.{arith}
use Rattle.netstring.proofs.Puts.{long}
use Rattle.script.specs.Commands.Misread.{no_netstring}
use Rattle.script.proofs.Parts.{spans}
use Rattle.script.proofs.Commands.{read_there}
use Rattle.script.proofs.read.read.Goals as goal

pub returns-in_default : goal.returns-in_default
returns-in_default c = no_netstring c.in_default.ensures.1

pub overflow_sub-end : goal.overflow_sub-end
overflow_sub-end c =
    let n = c.in-Ok.field-0 in
    omega (arith, spans c.args.script.now n.content.now c.args.at n.next c.in-Ok.ensures, long n.content.now)

pub overflow_sub-end-2 : goal.overflow_sub-end-2
overflow_sub-end-2 c =
    let n = c.in-Ok.field-0 in
    omega (arith, spans c.args.script.now n.content.now c.args.at n.next c.in-Ok.ensures, long n.content.now)

pub returns : goal.returns
returns c =
    let n = c.in-Ok.field-0 in
    rw c.ok_or.ensures.value (read_there c.args.script.now n.content.now c.args.at n.next c.command_inside-command.result c.in-Ok.ensures c.command_inside-command.ensures)
