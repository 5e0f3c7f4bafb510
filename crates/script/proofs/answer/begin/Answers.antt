use Rattle.std.proofs.Common.{[], decimal}
use Rattle.script.proofs.Writing.{start}
use Rattle.script.proofs.answer.begin.Goals as goal

pub returns-clause-after : goal.returns-clause-after
returns-clause-after c = c.append.ensures.after c.args.out.now (decimal c.args.len) (c.append_number-at.ensures.after c.args.out.now [] (start c.args.out.now))
