use Rattle.std.proofs.Common.{arith}
use Rattle.shelf_view.specs.State.{shown}
use Rattle.shelf_view.proofs.Placing.{placed}
use Rattle.shelf_view.proofs.view.View.root.Goals as goal

pub returns-in-Some : goal.returns-in-Some
returns-in-Some g c =
    let got = c.get.ensures.lookup in
    rw (c.ok_or.ensures.value, c.copied.ensures)
    (placed g.M.Monoid.model (shown c.args.self.now) c.args.d c.in-Some.i c.get.result (omega (arith, c.in-Some.ensures)) got.0 got.1 c.args.self.now.documents)
