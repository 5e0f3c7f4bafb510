use Rattle.monoid.specs.KarpRabinValues.{karp_rabin_model}
use Rattle.monoid.specs.KarpRabinLaws.{like}
use Rattle.monoid.proofs.karp_rabin.ops.KarpRabinMonoid.join.Goals as goal

pub invariant_of-result : goal.invariant_of-result
invariant_of-result c =
    record { valid = (like (karp_rabin_model.joined c.args.self c.args.other) _ _ _ c.multiply_add.ensures c.mul.ensures c.mul-2.ensures).1.1 }
