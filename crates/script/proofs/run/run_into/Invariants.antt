use Rattle.std.proofs.Common.{◌≤◌, ◌-◌, ℕ, List, length}
use Rattle.refusal.specs.Writing.{Stands}
use Rattle.script.specs.Answers.{TurnsIn}
use Rattle.script.proofs.run.run_into.Given as goal

abbrev pub invariant-loop-all : goal.invariant-loop-all
invariant-loop-all l = record {
  so_far : (all : List ℕ) × (TurnsIn (length l.fn.out) l.script l.fn.at l.fn.shelf all l.all.next l.shelf × Stands all l.fn.out l.all.len l.out);
  within : l.all.next ≤ length l.script;
}

abbrev pub decreases-loop-all : goal.decreases-loop-all
decreases-loop-all l = length l.script - l.all.next
