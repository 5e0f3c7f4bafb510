use Rattle.zemor.specs.Values.{sl2}
use Rattle.zemor.specs.Laws.{like, four}
use Rattle.zemor.proofs.matrix.ops.Sl2Monoid.join.Goals as goal

pub invariant_of-result : goal.invariant_of-result
invariant_of-result c =
    record { valid = (like (sl2.joined c.args.self c.args.other) _ (four _ _ c.dot.ensures c.dot-2.ensures c.dot-3.ensures c.dot-4.ensures)).1.1 }
