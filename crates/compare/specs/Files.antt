-- What is read of a file.
use Rattle.std.specs.Prelude.{◌≡◌, ℕ, ◌<◌, ◌≤◌, List, length, Some, None, Option}
use Rattle.refusal.specs.declared.limits.TheConstants.{MOST_TEXT}

-- the text of a file that has these bytes, or None exactly where they are more than a document has
abbrev pub IsWhole : Option (List ℕ) → List ℕ → Type 0
IsWhole (Some text) bytes = (text ≡ bytes) × (length bytes ≤ MOST_TEXT)
IsWhole None bytes = MOST_TEXT < length bytes
