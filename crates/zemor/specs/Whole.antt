-- Products of bits over whole numbers, without a modulus, and how large they are.
use Rattle.std.specs.Prelude.{◌≡◌, ℕ, ◌+◌, ◌*◌, ◌<◌, ◌≤◌, Bool, List, [], ◌∷◌, ◌⊎◌, length}
use Rattle.residue.specs.Fibonacci.{fib}
use Rattle.residue.specs.Residue.{prime}
use Rattle.zemor.specs.Matrix.{matrix, identity, bit}
use Rattle.zemor.specs.Bits.{product_of}
use Rattle.zemor.specs.declared.matrix.Entries.{Entries}

abbrev pub whole_times : Entries → Entries → Entries
whole_times x y =
    matrix (x.a * y.a + x.b * y.c) (x.a * y.b + x.b * y.d) (x.c * y.a + x.d * y.c) (x.c * y.b + x.d * y.d)

-- the product of bits, the first leftmost
abbrev pub whole : List Bool → Entries
whole [] = identity
whole (b ∷ w) = whole_times (bit b) (whole w)

-- how large entries grow: with n bits to no more than F(n + 1),
abbrev pub Bounded : Type 0
Bounded =
    (w : List Bool) → let f = fib (length w + 1) in ((whole w).a ≤ f) × ((whole w).b ≤ f) × ((whole w).c ≤ f) × ((whole w).d ≤ f)

-- and with some n bits so far, for each n; so 45 bits are the most whose products always stay below p
abbrev pub Attained : Type 0
Attained = (n : ℕ) → (w : List Bool) × ((length w ≡ n) × (((whole w).a ≡ fib (n + 1)) ⊎ ((whole w).b ≡ fib (n + 1))))

-- different bit strings have different products
abbrev pub Apart : Type 0
Apart = (u v : List Bool) → whole u ≡ whole v → u ≡ v

-- F(46) is below p, and F(47) is not
abbrev pub Edge : Type 0
Edge = (fib 46 ≡ 1836311903) × (fib 46 < prime) × (prime ≤ fib 47)

-- two matrices that are products of bits, of at most 45 bits together
pub record FewBits (x y : Entries) : Type 0 where
  pub front : List Bool
  pub back : List Bool
  pub x_is : x ≡ product_of front
  pub y_is : y ≡ product_of back
  pub few : length front + length back ≤ 45
