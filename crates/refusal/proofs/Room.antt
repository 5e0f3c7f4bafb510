-- Whether a buffer holds an answer.
use Rattle.std.proofs.Common.{◌≡◌, ℕ, ◌<◌, ◌≤◌, Some, None, arith}
use Rattle.std.proofs.lemmas.Bool.Decides.{nat_tests}
use Rattle.refusal.specs.Writing.{of_room}
use Rattle.refusal.specs.declared.Refusal.TheVariants.{SmallBuffer}

pub too_short : (k n : ℕ) → n < k → of_room k n ≡ Some SmallBuffer
too_short k n h = grind (arith, nat_tests)

pub long_enough : (k n : ℕ) → k ≤ n → of_room k n ≡ None
long_enough k n h = grind (arith, nat_tests)
