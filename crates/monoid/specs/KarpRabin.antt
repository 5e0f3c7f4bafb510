-- Karp and Rabin's fingerprint (1987): a polynomial modulo p = 2^31 - 1, with the power of the base that shifts by
-- the text's length and the inverse of that power.
use Rattle.std.specs.Prelude.{ℕ, ◌+◌, ◌*◌, ◌%◌, ◌^◌, List, [], ◌∷◌, length}
use Rattle.residue.specs.Residue.{prime, minus}
use Rattle.monoid.specs.declared.karp_rabin.KarpRabinRow.{KarpRabinRow}

-- the row (h, w, v)
abbrev pub hwv : ℕ → ℕ → ℕ → KarpRabinRow
hwv h w v = record { h = h; w = w; v = v }

abbrev pub empty : KarpRabinRow
empty = hwv 0 1 1

-- byte k is (k + 1, 16807, 1407677000)
abbrev pub of_byte : ℕ → KarpRabinRow
of_byte k = hwv ((k + 1) % prime) 16807 1407677000

-- two texts in a row: h moves up by the length of the text behind it, h × x + i, and the powers multiply, w × x and
-- v × y, modulo p
abbrev pub joined : KarpRabinRow → KarpRabinRow → KarpRabinRow
joined x y = hwv ((x.h * y.w + y.h) % prime) (x.w * y.w % prime) (x.v * y.v % prime)

-- what takes a text away again: (-h × v, v, w), modulo p
abbrev pub inverse : KarpRabinRow → KarpRabinRow
inverse x = hwv (minus x.h * x.v % prime) x.v x.w

-- the polynomial of a text, over whole numbers: each byte plus 1, times 16807 for each byte behind it
abbrev pub polynomial : List ℕ → ℕ
polynomial [] = 0
polynomial (k ∷ ks) = (k + 1) * 16807 ^ length ks + polynomial ks
