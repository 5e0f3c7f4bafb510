-- What is told of a document.
use Rattle.std.specs.Prelude.{◌≡◌, ℕ, List, length}
use Rattle.std.specs.List.{between}
use Rattle.monoid.specs.Monoid.{fold_of}
use Rattle.shelf_view.specs.Marked.{marked}
use Rattle.compare.specs.declared.told.Place.{Place}
use Rattle.compare.specs.declared.told.Told.{Told}

-- the place of a text, and its lines and columns up to there
abbrev pub IsPlace : List ℕ → ℕ → Place → Type 0
IsPlace text place p = (p.place ≡ place) × (p.front ≡ fold_of marked (between 0 place text))

-- a text's length and summary
abbrev pub IsTold : List ℕ → Told → Type 0
IsTold text t = (t.bytes ≡ length text) × (t.summary ≡ fold_of marked text)
