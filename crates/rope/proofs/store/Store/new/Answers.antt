use Rattle.std.proofs.Common.{◌≡◌, [], length, take, ap, arith, length-take}
use Rattle.rope.specs.Held.{held}
use Rattle.rope.proofs.Fresh.{fresh_sound, fresh_summed}
use Rattle.rope.proofs.store.Store.new.Goals as goal

pub invariant_of-result : goal.invariant_of-result
invariant_of-result g c =
    let b = c.capped.result.now in
    let no_text : held c.new.result ≡ [] = ap (λ n. take n c.new.result.memory.now) c.new.ensures.0 in
    let no_record : held c.new-2.result ≡ [] = ap (λ n. take n c.new-2.result.memory.now) c.new-2.ensures.0 in
    record {
      sound = fresh_sound b (held c.new.result) (held c.new-2.result) no_text no_record (omega (arith, ap length c.capped.ensures, length-take 16777216 c.args.build.now));
      summed = fresh_summed b (held c.new.result) (held c.new-2.result) no_text no_record g.M.Monoid.model;
    }
