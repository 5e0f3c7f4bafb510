use Rattle.std.proofs.Common.{subst}
use Rattle.shelf_view.specs.State.{State, state_of}
use Rattle.text_shelf.specs.Calls.{every_shelf}
use Rattle.shelf_view.specs.Marked.{ReadsBackIn}
use Rattle.shelf_promise.proofs.Running.{tells}
use Rattle.shelf_promise.proofs.told.read_back.Goals as goal

pub returns : goal.returns
returns c =
    let told : State → Type 0 = λ s. ReadsBackIn s c.args.d c.args.a c.args.b c.args.fingerprint.now c.args.out.now c.read_back.new.out c.read_back.result in
    tells every_shelf c.args.shelf.now told (subst (λ z. told (state_of z)) c.view.ensures c.read_back.ensures)
