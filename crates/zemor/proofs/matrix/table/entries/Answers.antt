use Rattle.std.proofs.Common.{get_or, ap, arith}
use Rattle.zemor.specs.Bits.{byte_product}
use Rattle.zemor.specs.Laws.{four}
use Rattle.zemor.proofs.Table.{row_at}
use Rattle.zemor.proofs.matrix.table.entries.Goals as goal

pub returns : goal.returns
returns c =
    let r = row_at c.args.byte (omega arith) in
    four _ (byte_product c.args.byte) (ap (λ w. get_or w 0 0) r) (ap (λ w. get_or w 1 0) r) (ap (λ w. get_or w 2 0) r) (ap (λ w. get_or w 3 0) r)
