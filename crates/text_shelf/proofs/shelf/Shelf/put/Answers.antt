use Rattle.std.proofs.Common.{length, refl, sym, subst, arith}
use Rattle.rope.specs.Steps.{Low}
use Rattle.text_shelf.specs.Shelves.{parts, brought, measures, strings}
use Rattle.text_shelf.specs.declared.call.Call.TheVariants.{Put}
use Rattle.text_shelf.proofs.Appending.{append, appended_does, ghosts, unspent, put_fits}
use Rattle.text_shelf.proofs.shelf.Shelf.put.Goals as goal

pub push-requires : goal.push-requires
push-requires g c =
    let s = parts c.args.self.now in
    (omega arith, unspent s (put_fits (brought s) (measures s) (strings s) c.args.text c.in_ok-check_put.ensures.0).free)

pub invariant_of-self : goal.invariant_of-self
invariant_of-self g c =
    let s = parts c.args.self.now in
    let made = c.keep-root.ensures in
    let push = c.push.ensures.gains in
    ghosts (append c.args.self.now c.keep-root.new.store c.args.text.now _ made.grows c.push.new.self c.keep-root.result c.args.text.now
    push made.stands.root made.stands.text_is
    (put_fits (brought s) (measures s) (strings s) c.args.text c.in_ok-check_put.ensures.0)).firm

pub returns : goal.returns
returns g c =
    let s = parts c.args.self.now in
    let made = c.keep-root.ensures in
    let push = c.push.ensures.gains in
    let none = c.in_ok-check_put.ensures.0 in
    let a =
    append c.args.self.now c.keep-root.new.store c.args.text.now _ made.grows c.push.new.self c.keep-root.result c.args.text.now
    push made.stands.root made.stands.text_is
    (put_fits (brought s) (measures s) (strings s) c.args.text none) in
    rw none
    (appended_does c.args.self.now (Put c.args.text) c.push.result c.args.text.now c.push.ensures.value refl refl a
    (a.draft, subst (Low (length c.args.text.now)) (sym a.newest) made.stands.low))
