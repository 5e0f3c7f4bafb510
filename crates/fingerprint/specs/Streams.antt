-- What a stream tells of the text that it was fed.
use Rattle.std.specs.Prelude.{◌≡◌, ℕ, ◌-◌, ◌^◌, min, List, [], length, Option}
use Rattle.monoid.specs.Monoid.{fold_of}
use Rattle.monoid.specs.LineColumnValues.{line_column_model}
use Rattle.zemor.specs.Values.{sl2}
use Rattle.std.specs.Borrow.{Bor}
use Rattle.std.specs.Io.KnownBytes.{Consumes, IsAtEnd}
use Rattle.fingerprint.specs.declared.stream.Stream.{Stream}

-- the fingerprint, lines and columns are those of the text, and the count of bytes, which stops at 2 ^ 64 - 1
pub record Sums (s : Stream) (text : List ℕ) : Type 0 where
  pub first : s.summary.first ≡ fold_of sl2 text
  pub second : s.summary.second ≡ fold_of line_column_model text
  pub count : s.bytes ≡ min (length text) (2 ^ 64 - 1)

-- a reader gave this chunk of what it has, where it tells that, and an empty one only at its end
abbrev pub ReadChunk : Option (List ℕ) → Option (List ℕ) → Bor (List ℕ) → Type 0
ReadChunk old new chunk = Consumes old new chunk.now × (chunk.now ≡ [] → IsAtEnd new)
