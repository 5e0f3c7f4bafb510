-- Where two texts part, and the lines of a part.
use Rattle.std.specs.Prelude.{◌≡◌, ℕ, ◌+◌, ◌≤◌, ◌==◌, Bool, not, List, reverse, length, drop, take, take_while, position, zip, Option, min}
use Rattle.std.specs.List.{between}
use Rattle.std.specs.Char.{is_ascii_digit}
use Rattle.std.specs.Option.{option_map}
use Rattle.rope.specs.Edits.{spliced}
use Rattle.compare.specs.declared.change.Part.{Part}
use Rattle.compare.specs.declared.change.Change.{Change}

-- how many bytes two texts have in common at their beginning, and at their end
abbrev pub front_of : List ℕ → List ℕ → ℕ
front_of a b = length (take_while (λ p. p.0 == p.1) (zip a b))

abbrev pub back_of : List ℕ → List ℕ → ℕ
back_of a b = front_of (reverse a) (reverse b)

-- both parts begin where the texts first differ, and end before what they have in common at their ends; with the new
-- part in the place of the old one, the old text is the new one
pub record IsChange (old new : List ℕ) (c : Change) : Type 0 where
  pub differ : ¬ (old ≡ new)
  pub old_from : c.old.from ≡ front_of old new
  pub new_from : c.new.from ≡ c.old.from
  pub old_to : c.old.to + back_of (drop c.old.from old) (drop c.old.from new) ≡ length old
  pub new_to : c.new.to + back_of (drop c.old.from old) (drop c.old.from new) ≡ length new
  pub old_part : c.old.from ≤ c.old.to
  pub new_part : c.new.from ≤ c.new.to
  pub replaced : new ≡ spliced old c.old.from c.old.to (between c.new.from c.new.to new)

-- how many bytes of a line stand before a place, and from it on
abbrev pub no_newline : ℕ → Bool
no_newline b = not (b == 10)

abbrev pub before : List ℕ → ℕ → ℕ
before text place = length (take_while no_newline (reverse (take place text)))

abbrev pub behind : List ℕ → ℕ → ℕ
behind text place = length (take_while no_newline (drop place text))

-- the part, longer by the rest of its first line and of its last
pub record Lines (text : List ℕ) (part lines : Part) : Type 0 where
  pub from : lines.from + before text part.from ≡ part.from
  pub to : lines.to ≡ part.to + behind text part.to
  pub within : lines.to ≤ length text

-- the first digits of a text, at most so many of them
abbrev pub digits_from : List ℕ → ℕ → ℕ → Part
digits_from text most i = record { from = i; to = i + min (length (take_while is_ascii_digit (drop i text))) most }

abbrev pub first_digits : List ℕ → ℕ → Option Part
first_digits text most = option_map (digits_from text most) (position is_ascii_digit text)
