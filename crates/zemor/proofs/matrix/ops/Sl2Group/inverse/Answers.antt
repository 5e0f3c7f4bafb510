use Rattle.std.proofs.Common.{refl}
use Rattle.zemor.specs.Values.{inverse_of}
use Rattle.zemor.specs.Laws.{like, four}
use Rattle.zemor.proofs.matrix.ops.Sl2Group.inverse.Goals as goal

pub invariant_of-result : goal.invariant_of-result
invariant_of-result c =
    record { valid = (like (inverse_of c.args.self) _ (four _ _ refl c.neg.ensures c.neg-2.ensures refl)).1.1 }
