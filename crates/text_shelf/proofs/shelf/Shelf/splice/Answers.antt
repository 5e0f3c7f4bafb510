use Rattle.std.proofs.Common.{arith}
use Rattle.text_shelf.specs.Shelves.{parts, brought, measures, strings}
use Rattle.text_shelf.proofs.Appending.{ghosts, unspent, splice_fits}
use Rattle.text_shelf.proofs.Editing.{splice_appends, splice_does}
use Rattle.text_shelf.proofs.shelf.Shelf.splice.Goals as goal

pub push-requires : goal.push-requires
push-requires g c =
    let s = parts c.args.self.now in
    (omega arith, unspent s (splice_fits (brought s) (measures s) (strings s) c.args.d c.args.from c.args.to c.args.other c.in_ok-part.ensures.0).free)

pub invariant_of-self : goal.invariant_of-self
invariant_of-self g c =
    let both = c.in_ok-part.ensures in
    let push = c.push.ensures.gains in
    ghosts (splice_appends g.M.Monoid.model c.args.self.now c.splice-root.new.store c.push.new.self c.splice-root.result
    push c.args.d c.args.from c.args.to c.in_ok-part.part both.1.0
    c.args.other c.in_ok-part.more both.1.1 both.0 c.splice-root.ensures).firm

pub returns : goal.returns
returns g c =
    let both = c.in_ok-part.ensures in
    let push = c.push.ensures.gains in
    rw both.0
    (splice_does g.M.Monoid.model c.args.self.now c.splice-root.new.store c.push.new.self c.splice-root.result
    push c.args.d c.args.from c.args.to c.in_ok-part.part both.1.0
    c.args.other c.in_ok-part.more both.1.1 both.0 c.splice-root.ensures c.push.result c.push.ensures.value)
