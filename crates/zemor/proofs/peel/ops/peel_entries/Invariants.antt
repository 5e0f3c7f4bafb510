use Rattle.std.proofs.Common.{◌-◌}
use Rattle.zemor.specs.Peeling.{spelled}
use Rattle.zemor.proofs.Strings.{Peeled}
use Rattle.zemor.proofs.peel.ops.peel_entries.Given as goal

abbrev pub invariant-loop-left : goal.invariant-loop-left
invariant-loop-left l = Peeled l.fn.m (spelled l.bits) l.left

abbrev pub decreases-loop-left : goal.decreases-loop-left
decreases-loop-left l = 45 - l.bits.len
