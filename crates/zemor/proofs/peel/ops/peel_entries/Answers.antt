use Rattle.std.proofs.Common.{sym, ◌∙◌}
use Rattle.zemor.proofs.Strings.{length_bits, is_it, is_other, peeled_more, peeled_all, peeled_stuck, peeled_end}
use Rattle.zemor.proofs.peel.ops.peel_entries.Goals as goal

pub returns-in_err-bit : goal.returns-in_err-bit
returns-in_err-bit c =
    rw c.from_residual.ensures
    (peeled_stuck c.args.m _ c.loop-left.left c.loop-left.invariant (is_other c.loop-left.left (sym c.loop-left-test.ensures)) c.in_err-bit.ensures)

pub returns-then-bits-eq-MOST_BITS : goal.returns-then-bits-eq-MOST_BITS
returns-then-bits-eq-MOST_BITS c =
    peeled_end c.args.m _ c.loop-left.left c.loop-left.invariant (is_other c.loop-left.left (sym c.loop-left-test.ensures))
    (length_bits c.loop-left.bits.word c.loop-left.bits.len ∙ c.if-bits-eq-MOST_BITS.true)

pub loop-left-preserved : goal.loop-left-preserved
loop-left-preserved c =
    rw c.push-bits.ensures.value
    (peeled_more c.args.m _ c.loop-left.left c.loop-left.invariant c.in_ok-bit.bit c.in_ok-bit.rest c.in_ok-bit.ensures (is_other c.loop-left.left (sym c.loop-left-test.ensures)))

pub returns : goal.returns
returns c = peeled_all c.args.m c.loop-left.bits c.loop-left.left c.loop-left.invariant (is_it c.loop-left.left (sym c.loop-left-test.ensures))
