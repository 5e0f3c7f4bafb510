-- Telling the string of bits that a matrix is the product of.
use Rattle.std.specs.Prelude.{◌≡◌, ◌≤◌, Bool, List, ◌∷◌, length, Some, None, Option, ◌≢◌}
use Rattle.zemor.specs.Matrix.{bit}
use Rattle.zemor.specs.Bits.{bits_in, product_of}
use Rattle.zemor.specs.Values.{row}
use Rattle.zemor.specs.Whole.{whole, whole_times}
use Rattle.zemor.specs.declared.matrix.Entries.{Entries}
use Rattle.zemor.specs.declared.matrix.Sl2.{Sl2}
use Rattle.zemor.specs.declared.peel.Bits.{Bits}

-- the bits of a string of bits
abbrev pub spelled : Bits → List Bool
spelled s = bits_in s.word s.len

-- the answer is the one string of at most 45 bits whose product is x; or there is no such string
abbrev pub Tells : Sl2 → Option Bits → Type 0
Tells x (Some s) =
    (product_of (spelled s) ≡ row x) × ((w : List Bool) → length w ≤ 45 → product_of w ≡ row x → w ≡ spelled s)
Tells x None = (w : List Bool) → length w ≤ 45 → product_of w ≢ row x

-- the same over whole numbers
abbrev pub Peels : Entries → Option Bits → Type 0
Peels m (Some s) = (whole (spelled s) ≡ m) × ((w : List Bool) → whole w ≡ m → w ≡ spelled s)
Peels m None = (w : List Bool) → length w ≤ 45 → whole w ≢ m

-- the first bit of every string whose product over whole numbers is m, and the product of its other bits
abbrev pub First : Entries → Option (Bool × Entries) → Type 0
First m (Some f) =
    (whole_times (bit f.0) f.1 ≡ m) × ((b : Bool) (w : List Bool) → whole (b ∷ w) ≡ m → (b ≡ f.0) × (whole w ≡ f.1))
First m None = (b : Bool) (w : List Bool) → whole (b ∷ w) ≢ m
