use Rattle.std.proofs.Common.{◌≡◌, ◌≤◌, length, take}
use Rattle.monoid.specs.Monoid.{fold_from}
use Rattle.monoid.proofs.Monoid.lengthened.Given as goal

abbrev pub invariant-loop-b : goal.invariant-loop-b
invariant-loop-b g l = (l.b-index ≤ length l.text) × (l.sum ≡ fold_from g.Self.Monoid.model l.initial.sum (take l.b-index l.text))
