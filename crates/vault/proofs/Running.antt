-- A script run on a fresh shelf.
use Rattle.std.proofs.Common.{ℕ, ◌≤◌, List, length, Ok, Err, Result, arith}
use Rattle.std.proofs.lemmas.Bool.Decides.{nat_tests}
use Rattle.std.proofs.lemmas.Grind.{common_steps}
use Rattle.refusal.specs.declared.Refusal.{Refusal}
use Rattle.script.specs.Answers.{RanInto}
use Rattle.script.specs.declared.run.Answered.{Answered}
use Rattle.vault.specs.Boundary.{Starts, Runs}
use Rattle.vault.specs.declared.calls.Desk.{Desk}
use Rattle.script.specs.declared.limits.TheConstants.{MOST_SCRIPT}

pub runs : (script old new : List ℕ) (fresh left : Desk) (r : Result Answered Refusal) → length script ≤ MOST_SCRIPT → Starts fresh.shelf → RanInto script 0 fresh.shelf old left.shelf new r → Runs script old new r
runs script old new fresh left (Ok r) short starts h = (
  grind (arith, common_steps, nat_tests, h.0),
  record { fresh = fresh; left = left; answers = h.2.0; starts = starts; turns = h.2.1.0; ends = h.1; written = h.2.1.1 },
)
runs script old new fresh left (Err e) short starts h = (grind (arith, common_steps, nat_tests, h.0, h.1), h.3)
