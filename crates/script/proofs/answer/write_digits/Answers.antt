use Rattle.std.proofs.Common.{length, arith}
use Rattle.netstring.specs.Netstring.{netstring}
use Rattle.netstring.proofs.Puts.{long}
use Rattle.refusal.proofs.Room.{long_enough}
use Rattle.script.proofs.Writing.{digits, accepted}
use Rattle.script.proofs.answer.write_digits.Goals as goal

pub unwrap-requires : goal.unwrap-requires
unwrap-requires c =
    let text = c.args.digits.now in
    let n = length (netstring text) in
    accepted _ _ _ _ _ c.write.ensures.written (long_enough n (length c.args.out.now) (omega (arith, long text, digits (length text) (omega arith), c.told-digits)))
