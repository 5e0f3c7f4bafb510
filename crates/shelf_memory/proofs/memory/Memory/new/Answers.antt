use Rattle.std.proofs.Common.{arith}
use Rattle.shelf_memory.proofs.memory.Memory.new.Goals as goal

pub returns : goal.returns
returns c = record {
  records = omega (arith, c.in_ok-vec.ensures.len, c.in_ok-vec.field-0.ok.0);
  added = omega (arith, c.in_ok-vec-2.ensures.len, c.in_ok-vec-2.field-0.ok.0);
  places = omega (arith, c.in_ok-vec-3.ensures.len, c.in_ok-vec-3.field-0.ok.0);
}
