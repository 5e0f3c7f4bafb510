use Rattle.std.proofs.Common.{◌-◌, [], refl, sym, subst, arith}
use Rattle.rope.specs.Steps.{Low}
use Rattle.rope_cut.specs.Parts.{height_in}
use Rattle.std.specs.List.{between}
use Rattle.text_shelf.specs.Shelves.{parts, brought, measures, strings}
use Rattle.text_shelf.specs.declared.call.Call.TheVariants.{Take}
use Rattle.text_shelf.proofs.Appending.{append, appended_does, takes_grows, ghosts, unspent, take_long, take_fits}
use Rattle.text_shelf.proofs.shelf.Shelf.take.Goals as goal

pub push-requires : goal.push-requires
push-requires g c =
    let s = parts c.args.self.now in
    (omega arith, unspent s (take_fits (brought s) (measures s) (strings s) c.args.from c.args.to c.in_ok-check_take.ensures.0).free)

pub invariant_of-self : goal.invariant_of-self
invariant_of-self g c =
    let s = parts c.args.self.now in
    let made = c.take_part-root.ensures in
    let text = between c.args.from c.args.to c.args.self.now.store.build.now in
    let push = c.push.ensures.gains in
    ghosts (append c.args.self.now c.take_part-root.new.store [] _ (takes_grows c.args.self.now.store c.take_part-root.new.store _ made.takes) c.push.new.self c.take_part-root.result text
    push made.stands.root made.stands.text_is
    (take_fits (brought s) (measures s) (strings s) c.args.from c.args.to c.in_ok-check_take.ensures.0)).firm

pub returns : goal.returns
returns g c =
    let s = parts c.args.self.now in
    let made = c.take_part-root.ensures in
    let text = between c.args.from c.args.to c.args.self.now.store.build.now in
    let push = c.push.ensures.gains in
    let none = c.in_ok-check_take.ensures.0 in
    let a =
    append c.args.self.now c.take_part-root.new.store [] _ (takes_grows c.args.self.now.store c.take_part-root.new.store _ made.takes) c.push.new.self c.take_part-root.result text
    push made.stands.root made.stands.text_is
    (take_fits (brought s) (measures s) (strings s) c.args.from c.args.to none) in
    let low =
    subst (λ n. Low n (height_in c.take_part-root.new.store c.take_part-root.result)) (take_long (brought s) (measures s) (strings s) c.args.from c.args.to none)
    made.stands.low in
    rw none
    (appended_does c.args.self.now (Take c.args.from c.args.to) c.push.result text c.push.ensures.value refl refl a
    (a.draft, subst (Low (c.args.to - c.args.from)) (sym a.newest) low))
