use Rattle.std.proofs.Common.{rules}
use Rattle.zemor.specs.Laws.{check_row_is}
use Rattle.zemor.proofs.matrix.ops.Sl2Monoid.check_row.Goals as goal

pub returns : goal.returns
returns c = check_row_is c.args.row _ (search rules)
