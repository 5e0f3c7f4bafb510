use Rattle.std.proofs.Common.{arith}
use Rattle.zemor.proofs.Products.{first_0}
use Rattle.zemor.proofs.peel.ops.first_bit.Goals as goal

pub returns-then-m-2 : goal.returns-then-m-2
returns-then-m-2 c = first_0 c.args.m (omega arith) (omega arith)
