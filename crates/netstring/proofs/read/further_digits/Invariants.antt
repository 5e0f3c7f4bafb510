use Rattle.std.proofs.Common.{◌≡◌, ◌^◌, ◌<◌, ◌++◌, length, decimal}
use Rattle.netstring.proofs.read.further_digits.Given as goal

abbrev pub invariant-loop-rest : goal.invariant-loop-rest
invariant-loop-rest l = record {
  begins : decimal l.front ++ l.text ≡ decimal l.n ++ l.rest;
  some : 0 < l.n;
  fits : l.n < 2 ^ 64;
}

abbrev pub decreases-loop-rest : goal.decreases-loop-rest
decreases-loop-rest l = length l.rest
