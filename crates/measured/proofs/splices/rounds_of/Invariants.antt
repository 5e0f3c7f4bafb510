use Rattle.std.proofs.Common.{◌≡◌}
use Rattle.shelf_view.specs.Marked.{fingerprint}
use Rattle.measured.specs.Stamps.{stamped}
use Rattle.measured.proofs.splices.rounds_of.Given as goal

abbrev pub invariant-loop : goal.invariant-loop
invariant-loop l = l.told ≡ fingerprint (stamped l.build l.places)
