use Rattle.std.proofs.Common.{[], get_or, refl, ap, ◌∙◌, arith}
use Rattle.rope.specs.Arena.{arena, forest}
use Rattle.rope.specs.Tree.{leaf}
use Rattle.rope.specs.Memory.{arena_of}
use Rattle.rope.specs.Held.{held}
use Rattle.rope.proofs.Keeping.{fills_none}
use Rattle.rope.proofs.Pushes.{pushed_sound, pushed_summed, pushed_tree}
use Rattle.rope.proofs.store.Store.push.Goals as goal

pub invariant_of-self : goal.invariant_of-self
invariant_of-self g c =
    let s = c.args.self.now in
    record {
      sound = pushed_sound g.M.Monoid.model s s.summed c.args.record c.requires (held c.push.new.self) c.push.ensures.gains.held_are;
      summed = pushed_summed g.M.Monoid.model s s.summed c.args.record c.requires (held c.push.new.self) c.push.ensures.gains.held_are;
    }

pub returns : goal.returns
returns g c =
    let s = c.args.self.now in
    record {
      takes = record {
        keeps = record { build = refl {a = s.build.now}; added = fills_none s.added.used s.added.memory.now; records = c.push.ensures.gains.fills };
        added = refl {a = s.added.used};
        cost = omega (arith, c.push.ensures.gains.used);
      };
      at = omega (arith, c.push.ensures.value);
      one = c.push.ensures.gains.used;
      tree = ap (λ i. get_or (forest (arena s.build.now (arena_of s).added (held c.push.new.self))) i (leaf [])) (omega (arith, c.push.ensures.value))
          ∙ pushed_tree g.M.Monoid.model s s.summed c.args.record c.requires (held c.push.new.self) c.push.ensures.gains.held_are;
    }
