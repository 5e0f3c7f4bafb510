use Rattle.std.proofs.Common.{rules}
use Rattle.zemor.proofs.Writing.{bytes_read}
use Rattle.zemor.proofs.matrix.Sl2.to_bytes.Goals as goal

pub returns-clause-value : goal.returns-clause-value
returns-clause-value c = search rules

pub returns-clause-back : goal.returns-clause-back
returns-clause-back c = bytes_read c.args.self _ (returns-clause-value c)
