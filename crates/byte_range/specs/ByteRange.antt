-- The least and the greatest byte of a text, as a pair (least, greatest).
use Rattle.std.specs.Prelude.{ℕ, min, max}

-- no byte is above 255 or below 0, so joining the empty text changes nothing
abbrev pub empty : ℕ × ℕ
empty = (255, 0)

-- a byte is its own least and greatest; a number above 255 is no byte, and counts as 255
abbrev pub of_byte : ℕ → ℕ × ℕ
of_byte k = (min k 255, min k 255)

abbrev pub joined : ℕ × ℕ → ℕ × ℕ → ℕ × ℕ
joined (l, g) (m, h) = (min l m, max g h)
