use Rattle.std.proofs.Common.{arith}
use Rattle.zemor.proofs.Windowing.{window_none, window_odd, window_some}
use Rattle.zemor.proofs.window.ops.window.Goals as goal

pub returns-in_err-bits : goal.returns-in_err-bits
returns-in_err-bits c = rw c.from_residual.ensures (window_none c.args.x c.in_err-bits.ensures)

pub returns-then-bits-ne0 : goal.returns-then-bits-ne0
returns-then-bits-ne0 c = window_odd c.args.x c.in_ok-bits.bits c.in_ok-bits.ensures (omega arith)

pub returns : goal.returns
returns c =
    window_some c.args.x c.in_ok-bits.bits c.spelled_bytes.result c.in_ok-bits.ensures c.if-bits-ne0.false c.spelled_bytes.ensures
