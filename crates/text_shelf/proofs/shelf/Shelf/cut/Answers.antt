use Rattle.std.proofs.Common.{arith}
use Rattle.text_shelf.specs.Shelves.{parts}
use Rattle.text_shelf.proofs.Appending.{ghosts, unspent}
use Rattle.text_shelf.proofs.Editing.{part_fits, cut_appends, cut_does}
use Rattle.text_shelf.proofs.shelf.Shelf.cut.Goals as goal

pub push-requires : goal.push-requires
push-requires g c =
    let part = c.in_ok-part.ensures in
    (omega arith, unspent (parts c.args.self.now) (part_fits c.args.self.now c.args.d c.args.from c.args.to c.in_ok-part.part part.1 part.0).free)

pub invariant_of-self : goal.invariant_of-self
invariant_of-self g c =
    let part = c.in_ok-part.ensures in
    let push = c.push.ensures.gains in
    ghosts (cut_appends g.M.Monoid.model c.args.self.now c.cut-root.new.store c.push.new.self c.cut-root.result
    push c.args.d c.args.from c.args.to c.in_ok-part.part part.1 part.0 c.cut-root.ensures).firm

pub returns : goal.returns
returns g c =
    let part = c.in_ok-part.ensures in
    let push = c.push.ensures.gains in
    rw part.0
    (cut_does g.M.Monoid.model c.args.self.now c.cut-root.new.store c.push.new.self c.cut-root.result
    push c.args.d c.args.from c.args.to c.in_ok-part.part part.1 part.0 c.cut-root.ensures c.push.result c.push.ensures.value)
