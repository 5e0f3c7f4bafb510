use Rattle.std.proofs.Common.{◌+◌, length, refl, arith}
use Rattle.std.proofs.lemmas.Fmt.{length-decimal-le}
use Rattle.refusal.proofs.Room.{too_short, long_enough}
use Rattle.netstring.specs.Netstring.{netstring}
use Rattle.netstring.proofs.Puts.{long, assembled}
use Rattle.netstring.proofs.Backs.{reads_back}
use Rattle.netstring.proofs.write.write.Goals as goal

pub overflow_add-whole : goal.overflow_add-whole
overflow_add-whole c = omega (arith, length-decimal-le 20 (length c.args.content.now) (omega arith) (omega arith) (omega arith))

pub overflow_add-whole-2 : goal.overflow_add-whole-2
overflow_add-whole-2 c = omega (arith, length-decimal-le 20 (length c.args.content.now) (omega arith) (omega arith) (omega arith))

pub returns-then-out-whole-clause-written : goal.returns-then-out-whole-clause-written
returns-then-out-whole-clause-written c =
    (too_short (length (netstring c.args.content.now)) (length c.args.out.now) (omega (arith, long c.args.content.now)), refl)

pub returns : goal.returns
returns c =
    let content = c.args.content.now in
    let old = c.args.out.now in
    let l = long content in
    let w = c.in_ok-write.ensures.1 in
    let k = c.in_ok-write_start.ensures.1 in
    let text =
    assembled content old c.write.new.out c.write_start.new.out c.count-k.result (length content + c.count-k.result + 2) c.count-k.ensures (omega arith) (omega arith)
    (cc (w.0, w.2, c.count-k.ensures)) (cc (k.0, k.2)) in
    record {
      written = (long_enough (length (netstring content)) (length old) (omega (arith, l)), (omega (arith, l), omega arith, text));
      reads_back = reads_back content old _ _ (omega arith) (omega arith) (omega (arith, l)) text;
    }
