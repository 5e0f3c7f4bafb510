use Rattle.shelf_view.specs.State.{shown}
use Rattle.shelf_view.proofs.Reading.{part_told}
use Rattle.shelf_view.proofs.view.View.part.Goals as goal

pub returns : goal.returns
returns g c =
    let whole = c.in_ok-document.ensures in
    part_told (shown c.args.self.now) c.args.d c.args.a c.args.b c.in_ok-document.field-0 c.text.result c.part.result whole.0 whole.1 c.text.ensures.place c.text.ensures.bounds c.text.ensures.value c.part.ensures
