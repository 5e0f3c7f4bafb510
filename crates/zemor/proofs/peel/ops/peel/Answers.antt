use Rattle.zemor.proofs.Strings.{told}
use Rattle.zemor.proofs.peel.ops.peel.Goals as goal

pub returns : goal.returns
returns c = told c.args.x c.peel_entries.result (rw c.to_row.ensures at c.peel_entries.ensures)
