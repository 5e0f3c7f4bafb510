use Rattle.std.proofs.Common.{[], refl, arith}
use Rattle.script.specs.Answers.Turn.{over}
use Rattle.script.proofs.Turning.{turned, turned_away}
use Rattle.script.proofs.run.turn.Goals as goal

pub returns-then-at-script : goal.returns-then-at-script
returns-then-at-script c = ([], (over c.if-at-script.true, (refl, omega arith, refl)))

pub returns-in-Ok : goal.returns-in-Ok
returns-in-Ok c =
    let h = c.in-Ok.ensures in
    turned c.args.script.now c.args.at c.args.shelf.now c.answer.new.shelf c.read-next.result.command c.read-next.result.next h.0 c.in-Ok.len c.args.out.now c.answer.new.out c.if-at-script.false c.read-next.ensures h.1.0 h.1.1

pub returns-in-Err : goal.returns-in-Err
returns-in-Err c =
    let h = c.in-Err.ensures in
    turned_away c.args.script.now c.args.at c.args.shelf.now c.answer.new.shelf c.read-next.result.command c.read-next.result.next h.0 c.in-Err.why c.args.out.now c.answer.new.out c.write_refusal-len.result c.write_refusal-len.new.out
    c.if-at-script.false c.read-next.ensures h.1.0 h.1.1 c.write_refusal-len.ensures
