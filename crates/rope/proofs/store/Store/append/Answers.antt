use Rattle.rope.specs.Held.{held}
use Rattle.rope.proofs.Appends.{appended_sound, appended_summed}
use Rattle.rope.proofs.store.Store.append.Goals as goal

pub invariant_of-self : goal.invariant_of-self
invariant_of-self g c =
    let s = c.args.self.now in
    record {
      sound = appended_sound g.M.Monoid.model s s.summed c.args.text.now (held c.extend_from_slice.new.self) c.requires c.extend_from_slice.ensures.gains.held_are;
      summed = appended_summed g.M.Monoid.model s s.summed c.args.text.now (held c.extend_from_slice.new.self) c.requires c.extend_from_slice.ensures.gains.held_are;
    }
