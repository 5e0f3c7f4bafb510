-- Why a shelf refuses.
use Rattle.std.specs.Prelude.{Option}
use Rattle.refusal.specs.Refusals.{first}
use Rattle.refusal.specs.declared.Refusal.{Refusal}
use Rattle.text_shelf.specs.Shelves.{parts, brought, measures, strings}
use Rattle.text_shelf.specs.Calls.{Because}
use Rattle.text_shelf.specs.declared.shelf.Shelf.{Shelf}

-- the first of these reasons that holds on a shelf
abbrev pub why : Because → {V R : Type 0} {kind : _} → Shelf V R kind → Option Refusal
why f s = first (f (brought (parts s)) (measures (parts s)) (strings (parts s)))
