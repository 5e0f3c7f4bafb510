-- What the program does with its reader and its writer.
use Rattle.std.specs.Prelude.{◌≡◌, ℕ, List, ◌⊎◌, take, Ok, Err, Option, Result, IfSome}
use Rattle.script.specs.Answers.{RanAll}
use Rattle.text_shelf.specs.declared.shelf.Shelf.{Shelf}
use Rattle.script.specs.declared.limits.TheConstants.{MOST_SCRIPT}

-- a reader's script is run: the first MOST_SCRIPT of the bytes that it had, where it tells them
abbrev pub RanFrom : {V R : Type 0} {kind : _} {E : Type 0}
    → Option (List ℕ) → Shelf V R kind → Option (List ℕ) → Shelf V R kind → Option (List ℕ) → Result (Unit {0}) E → Type 0
RanFrom had s old t new r =
    (script : List ℕ) × (IfSome had (λ bytes. script ≡ take MOST_SCRIPT bytes) × RanAll script 0 s old t new r)

-- what `serve` does, for a writer before and after, and what it shows of its bytes. An error may come from the reader, and
-- then nothing is run and the writer not touched; or else it is one of the run.
abbrev pub Served : {V R : Type 0} {kind : _} {W E : Type 0}
    → (W → Option (List ℕ)) → Option (List ℕ) → Shelf V R kind → W → Shelf V R kind → W → Result (Unit {0}) E → Type 0
Served {E = E} shows had s w t x (Ok u) = RanFrom {E = E} had s (shows w) t (shows x) (Ok u)
Served shows had s w t x (Err e) = ((t ≡ s) × (x ≡ w)) ⊎ RanFrom had s (shows w) t (shows x) (Err e)
