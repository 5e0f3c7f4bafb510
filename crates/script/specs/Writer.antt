-- Writing to a writer. No promise to a caller rests on this file.
use Rattle.std.specs.Prelude.{ℕ, ◌<◌, List, length, take, Ok, Err, Option, Result}
use Rattle.std.specs.Io.KnownBytes.{Appends}

-- what `write_whole` does, for a writer that held the bytes `old` and holds the bytes `new`, where it tells them: all of
-- `bytes` are written; with an error a front of them, and not all
abbrev pub WroteWhole : {E : Type 0} → Option (List ℕ) → Option (List ℕ) → List ℕ → Result (Unit {0}) E → Type 0
WroteWhole old new bytes (Ok u) = Appends old new bytes
WroteWhole old new bytes (Err e) = (n : ℕ) × (n < length bytes) × Appends old new (take n bytes)
