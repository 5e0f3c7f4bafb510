-- Matrices [a b; c d] modulo p = 2^31 - 1.
use Rattle.std.specs.Prelude.{ℕ, Bool, true, false}
use Rattle.residue.specs.Residue.{dot, minus}
use Rattle.zemor.specs.declared.matrix.Entries.{Entries}

abbrev pub matrix : ℕ → ℕ → ℕ → ℕ → Entries
matrix a b c d = record { a = a; b = b; c = c; d = d }

abbrev pub identity : Entries
identity = matrix 1 0 0 1

-- the matrix product
abbrev pub times : Entries → Entries → Entries
times x y =
    matrix (dot x.a x.b y.a y.c) (dot x.a x.b y.b y.d)
    (dot x.c x.d y.a y.c) (dot x.c x.d y.b y.d)

-- what undoes a matrix of determinant 1: a and d change places, b and c their signs
abbrev pub inverse : Entries → Entries
inverse x = matrix x.d (minus x.b) (minus x.c) x.a

-- bit 0 is [1 1; 0 1], and bit 1 is [1 0; 1 1]
abbrev pub bit : Bool → Entries
bit false = matrix 1 1 0 1
bit true = matrix 1 0 1 1
