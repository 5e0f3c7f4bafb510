use Rattle.std.proofs.Common.{take, drop, refl, arith}
use Rattle.rope.specs.declared.record.Origin.TheVariants.{Build}
use Rattle.rope.proofs.Keeping.{takes_within}
use Rattle.rope.proofs.Pushes.{length_part}
use Rattle.rope_keep.specs.Kept.{text_need}
use Rattle.rope_keep.proofs.Keepings.{stands_built}
use Rattle.rope_keep.proofs.take_part.Goals as goal

pub returns : goal.returns
returns g c =
    let xs = c.args.store.now.build.now in
    let n = c.args.count in
    let built = c.build.new.self in
    record {
      takes = takes_within {b = built} (text_need n) (omega arith) c.build.ensures.takes;
      stands = stands_built built Build c.args.start n (take n (drop c.args.start xs)) c.build.ensures refl (length_part xs c.args.start n c.requires.within);
    }
