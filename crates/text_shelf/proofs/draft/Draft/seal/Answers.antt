use Rattle.std.proofs.Common.{arith}
use Rattle.refusal.proofs.Firsts.{first_none}
use Rattle.text_shelf.specs.Shelves.{parts, brought, measures, strings}
use Rattle.text_shelf.specs.Calls.{reasons}
use Rattle.text_shelf.specs.declared.call.Call.TheVariants.{Seal}
use Rattle.text_shelf.proofs.Appending.{ghosts, unspent}
use Rattle.text_shelf.proofs.Drafting.{firm_sealed, seal_does}
use Rattle.text_shelf.proofs.draft.Draft.seal.Goals as goal

pub push-requires : goal.push-requires
push-requires g c =
    let s = parts c.args.shelf.now in
    (omega arith, unspent s (first_none (reasons (brought s) (measures s) (strings s) (Seal c.args.self.id)) c.in-Ok.ensures.0).1.0)

pub invariant_of-shelf : goal.invariant_of-shelf
invariant_of-shelf g c =
    let draft = c.in-Ok.ensures in
    let push = c.push.ensures.gains in
    ghosts (firm_sealed g.M.Monoid.model c.args.shelf.now c.args.self.id c.in-Ok.root c.push.new.self draft.0 draft.1
    push)

pub returns-in-Ok : goal.returns-in-Ok
returns-in-Ok g c =
    let draft = c.in-Ok.ensures in
    let push = c.push.ensures.gains in
    record {
      step =
          rw draft.0
          (seal_does g.M.Monoid.model c.args.shelf.now c.args.self.id c.in-Ok.root c.push.new.self draft.0 draft.1
          push c.push.result c.push.ensures.value);
      back = tt;
    }
