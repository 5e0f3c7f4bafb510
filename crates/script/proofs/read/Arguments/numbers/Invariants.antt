use Rattle.std.proofs.Common.{◌≡◌, length, take}
use Rattle.script.specs.Parsing.{ArgumentsAt}
use Rattle.script.proofs.read.Arguments.numbers.Given as goal

abbrev pub invariant-loop-i : goal.invariant-loop-i
invariant-loop-i g l = record {
  all : length l.numbers ≡ g.row.N;
  inside : l.self.inside ≡ l.fn.self.inside;
  so_far : ArgumentsAt l.fn.self.inside.now l.fn.self.at (take l.i l.numbers) l.self.at;
}
