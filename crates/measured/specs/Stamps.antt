-- What the splices of the benchmark make.
use Rattle.std.specs.Prelude.{◌≡◌, ℕ, zero, suc, ◌+◌, ◌<◌, ◌≤◌, List, [], ◌∷◌, length, codes}
use Rattle.std.specs.List.{between}
use Rattle.refusal.specs.Writing.{Stands}
use Rattle.zemor.specs.Values.{row}
use Rattle.zemor.specs.Written.{bytes_of}
use Rattle.zemor.specs.declared.matrix.Sl2.{Sl2}
use Rattle.rope.specs.Edits.{spliced}
use Rattle.shelf_view.specs.State.{text_at}
use Rattle.text_shelf.specs.Shelves.{parts, strings}
use Rattle.text_shelf.specs.declared.shelf.Shelf.{Shelf}

-- the text with the stamp over the eight bytes at each place, one place after the other
abbrev pub stamped : List ℕ → List ℕ → List ℕ
stamped text [] = text
stamped text (a ∷ places) = stamped (spliced text a (a + 8) (codes "gatsomev")) places

-- document d is there, and has this text
abbrev pub HasText : {V R : Type 0} {kind : _} → Shelf V R kind → ℕ → List ℕ → Type 0
HasText s d text = (d < length (strings (parts s)).texts) × (text_at (strings (parts s)) d ≡ text)

-- document d is the first len bytes of the build text, stamped
abbrev pub IsStamped : {V R : Type 0} {kind : _} → List ℕ → ℕ → List ℕ → Shelf V R kind → ℕ → Type 0
IsStamped build len places s d = (len ≤ length build) × HasText s d (stamped (between 0 len build) places)

-- a fingerprint's sixteen bytes stand at the buffer's start behind the answer 0; behind any other the buffer is as it was
abbrev pub WritesBytes : Sl2 → List ℕ → List ℕ → ℕ → Type 0
WritesBytes x old new zero = Stands (bytes_of (row x)) old 16 new
WritesBytes x old new (suc n) = new ≡ old
