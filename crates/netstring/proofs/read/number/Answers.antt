use Rattle.std.proofs.Common.{arith}
use Rattle.netstring.proofs.Runs.{number_none, number_more}
use Rattle.netstring.proofs.read.number.Goals as goal

pub returns-in_err-n : goal.returns-in_err-n
returns-in_err-n c = rw c.from_residual.ensures (number_none c.args.text.now c.in_err-n.ensures)

pub returns-in_default : goal.returns-in_default
returns-in_default c = let h = c.in_ok-n.ensures in number_more c.args.text.now c.in_ok-n.field-0.1.now c.in_ok-n.field-0.0 h (omega arith)
