use Rattle.std.proofs.Common.{◌≤◌, take, length, get_or, codes, refl, sym, subst, arith}
use Rattle.std.specs.List.{between}
use Rattle.std.proofs.lemmas.List.{take_more}
use Rattle.text_shelf.specs.declared.call.Call.TheVariants.{Take}
use Rattle.measured.specs.Stamps.{stamped, HasText}
use Rattle.measured.proofs.Stamping.{adds, puts, new_there, old_there, stamps, within}
use Rattle.measured.proofs.splices.stamp_all.Goals as goal

pub loop-a-init : goal.loop-a-init
loop-a-init c =
    let s = c.args.shelf.now in
    let put = puts s c.put.new.self c.in_ok-stamp.stamp c.in_ok-stamp.ensures in
    let took = adds c.put.new.self c.take.new.self (Take 0 c.args.len) c.in_ok-newest.newest 0 (between 0 c.args.len c.put.new.self.store.build.now) refl refl c.in_ok-newest.ensures in
    record {
      within = subst (λ b. c.args.len ≤ length b) put.build (within c.put.new.self 0 c.args.len took.none);
      index = omega arith;
      stamp = old_there took c.in_ok-stamp.stamp (codes "gatsomev") (new_there put);
      newest = subst (λ b. HasText c.take.new.self c.in_ok-newest.newest (between 0 c.args.len b)) put.build (new_there took);
    }

pub loop-a-preserved : goal.loop-a-preserved
loop-a-preserved c =
    let i = c.loop-a.a-index in
    let text = between 0 c.args.len c.args.shelf.now.store.build.now in
    let more = stamps c.loop-a.shelf c.splice.new.self c.loop-a.newest (get_or c.args.places.now i 0) c.saturating_add.result c.in_ok-stamp.stamp c.in_ok-newest-2.newest text (take i c.args.places.now)
    c.loop-a.invariant.newest c.loop-a.invariant.stamp c.saturating_add.ensures c.in_ok-newest-2.ensures in
    record {
      within = c.loop-a.invariant.within;
      index = omega arith;
      stamp = more.1;
      newest = subst (λ ps. HasText c.splice.new.self c.in_ok-newest-2.newest (stamped text ps)) (sym (take_more c.args.places.now i 0 (omega arith))) more.0;
    }
