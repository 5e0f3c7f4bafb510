use Rattle.std.proofs.Common.{◌≡◌, ◌-◌, ℕ, List, length}
use Rattle.std.specs.Io.KnownBytes.{Appends}
use Rattle.script.specs.declared.limits.TheConstants.{MOST_ANSWER}
use Rattle.script.specs.Answers.{Turns}
use Rattle.script.proofs.run.run_all.Given as goal

abbrev pub invariant-loop-at : goal.invariant-loop-at
invariant-loop-at g l = record {
  so_far : (all : List ℕ) × (Turns l.script l.fn.at l.fn.shelf all l.at l.shelf × Appends (g.W.Write.contents l.fn.out) (g.W.Write.contents l.out) all);
  room : length l.answer ≡ MOST_ANSWER;
}

abbrev pub decreases-loop-at : goal.decreases-loop-at
decreases-loop-at g l = length l.script - l.at
