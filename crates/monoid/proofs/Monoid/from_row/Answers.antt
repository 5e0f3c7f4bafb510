use Rattle.std.proofs.Common.{◌∙◌}
use Rattle.monoid.proofs.Rows.{from_row_is, from_row_none}
use Rattle.monoid.proofs.Monoid.from_row.Goals as goal

pub returns-clause-none : goal.returns-clause-none
returns-clause-none g c = λ n.
    let m = g.Self.Monoid.model in
    let l = g.met.Self.Monoid.lawful in
    from_row_is m l c.check_row.ensures c.empty.ensures c.unwrap_or.ensures ∙ from_row_none m l c.args.row n
