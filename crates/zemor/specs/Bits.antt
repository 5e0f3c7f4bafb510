-- Numbers as digits, texts as bits, and the product of bits.
use Rattle.std.specs.Prelude.{ℕ, zero, suc, ◌/◌, ◌%◌, ◌^◌, Bool, List, [], ◌∷◌, ◌++◌, map, ◌==◌}
use Rattle.zemor.specs.Matrix.{identity, times, bit}
use Rattle.zemor.specs.declared.matrix.Entries.{Entries}

-- the n lowest digits of x in a base, the highest first
abbrev pub digits_in : ℕ → ℕ → ℕ → List ℕ
digits_in base x zero = []
digits_in base x (suc n) = x / base ^ n % base ∷ digits_in base x n

abbrev pub is_one : ℕ → Bool
is_one k = k == 1

-- the n lowest bits of x, the highest first
abbrev pub bits_in : ℕ → ℕ → List Bool
bits_in x n = map is_one (digits_in 2 x n)

-- the bits of a text are those of its bytes in order, eight for each byte
abbrev pub text_bits : List ℕ → List Bool
text_bits [] = []
text_bits (k ∷ ks) = bits_in k 8 ++ text_bits ks

-- the product of bits modulo p, the first leftmost
abbrev pub product_of : List Bool → Entries
product_of [] = identity
product_of (b ∷ bs) = times (bit b) (product_of bs)

-- a byte is the product of its eight bits
unfoldable pub byte_product : ℕ → Entries
byte_product k = product_of (bits_in k 8)
