use Rattle.std.proofs.Common.{◌≡◌, get_or, ap, ◌∙◌, arith}
use Rattle.zemor.specs.Matrix.{matrix}
use Rattle.zemor.specs.Bits.{byte_product}
use Rattle.zemor.specs.Values.{sl2}
use Rattle.zemor.specs.Laws.{same, like, four}
use Rattle.zemor.proofs.Table.{row_at}
use Rattle.zemor.proofs.matrix.table.of_byte.Goals as goal
use Rattle.zemor.proofs.matrix.table.of_byte.Goals.{After-from-4}

entries : (c : After-from-4) → matrix c.from.result.n c.from-2.result.n c.from-3.result.n c.from-4.result.n ≡ byte_product c.args.byte
entries c =
    let k = c.args.byte in
    let r = row_at k (omega arith) in
    four _ (byte_product k)
    (c.from.ensures ∙ ap (λ w. get_or w 0 0) r)
    (c.from-2.ensures ∙ ap (λ w. get_or w 1 0) r)
    (c.from-3.ensures ∙ ap (λ w. get_or w 2 0) r)
    (c.from-4.ensures ∙ ap (λ w. get_or w 3 0) r)

pub invariant_of-result : goal.invariant_of-result
invariant_of-result c = record { valid = (like (sl2.of_byte c.args.byte) _ (entries c)).1.1 }

pub returns : goal.returns
returns c = same _ _ (entries (goal.at.returns c).After-from-4)
