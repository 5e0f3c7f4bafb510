use Rattle.std.proofs.Common.{subst}
use Rattle.shelf_view.specs.State.{state_of}
use Rattle.text_shelf.specs.Calls.{every_shelf}
use Rattle.shelf_promise.specs.Promises.{PartFolds}
use Rattle.shelf_promise.proofs.Running.{tells}
use Rattle.shelf_promise.proofs.told.part_summary.Goals as goal

pub returns : goal.returns
returns g c =
    let told = PartFolds g.M.Monoid.model c.args.d c.args.a c.args.b c.part_summary.result in
    tells every_shelf c.args.shelf.now told (subst (λ z. told (state_of z)) c.view.ensures c.part_summary.ensures)
