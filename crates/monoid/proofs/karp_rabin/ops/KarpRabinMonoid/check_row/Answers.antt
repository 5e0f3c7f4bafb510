use Rattle.std.proofs.Common.{rules}
use Rattle.monoid.specs.KarpRabinLaws.{check_row_is}
use Rattle.monoid.proofs.karp_rabin.ops.KarpRabinMonoid.check_row.Goals as goal

pub returns : goal.returns
returns c = check_row_is c.args.row _ (search rules)
