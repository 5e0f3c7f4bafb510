use Rattle.text_shelf.proofs.Appending.{ghosts}
use Rattle.text_shelf.proofs.Drafting.{firm_longer, add_does}
use Rattle.text_shelf.proofs.draft.Draft.add.Goals as goal

pub invariant_of-shelf : goal.invariant_of-shelf
invariant_of-shelf g c =
    let draft = c.in_ok-root.ensures in
    let made = c.lengthen.ensures in
    ghosts (firm_longer g.M.Monoid.model c.args.shelf.now c.args.self.now.id c.args.text c.in_ok-root.root c.lengthen.result c.lengthen.new.store
    draft.0 draft.1 made.grows made.root made.text made.high)

pub returns : goal.returns
returns g c =
    let draft = c.in_ok-root.ensures in
    let made = c.lengthen.ensures in
    rw draft.0
    (add_does g.M.Monoid.model c.args.shelf.now c.args.self.now.id c.args.text c.in_ok-root.root c.lengthen.result c.lengthen.new.store
    draft.0 draft.1 made.grows made.root made.text made.high)
