use Rattle.std.proofs.Common.{◌≡◌, length}
use Rattle.monoid.specs.Monoid.{fold_of}
use Rattle.monoid.proofs.fold.fold.Given as goal

-- what is summed, joined with the rest, is the whole
abbrev pub invariant-loop-stretch : goal.invariant-loop-stretch
invariant-loop-stretch g l = let m = g.M.Monoid.model in m.joined l.sum (fold_of m l.rest) ≡ fold_of m l.text

abbrev pub decreases-loop-stretch : goal.decreases-loop-stretch
decreases-loop-stretch g l = length l.rest
