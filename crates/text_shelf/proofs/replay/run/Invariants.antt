use Rattle.std.proofs.Common.{◌≡◌, take, drop}
use Rattle.text_shelf.specs.Calls.{every_shelf}
use Rattle.text_shelf.specs.Shelves.{parts}
use Rattle.text_shelf.specs.Reaches.{Went}
use Rattle.text_shelf.specs.Steps.{Spares}
use Rattle.text_shelf.proofs.replay.run.Given as goal

abbrev pub invariant-loop-i : goal.invariant-loop-i
invariant-loop-i g l =
    Went every_shelf l.initial.shelf (take l.i l.calls) (take l.i l.answers) l.shelf
    × (drop l.n l.answers ≡ drop l.n l.initial.answers)
    × Spares (parts l.initial.shelf) (parts l.shelf)
