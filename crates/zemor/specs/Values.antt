-- The values of the fingerprint are the matrices with entries below p and a × d - b × c equal to 1 modulo p.
use Rattle.std.specs.Prelude.{◌≡◌, ℕ, ◌+◌, ◌*◌, ◌%◌, ◌<◌, Bool, true, false, List, [], ◌∷◌, refl}
use Rattle.std.proofs.Math.Logic.Dec.{and}
use Rattle.std.proofs.Math.Decide.{dec_lt, ℕ_discrete}
use Rattle.std.proofs.Common.{lit<}
use Rattle.residue.specs.Residue.{prime}
use Rattle.residue.specs.Values.{residue}
use Rattle.residue.proofs.Bounds.{below_prime}
use Rattle.residue.proofs.Modulo.{det_dot, det_inverse}
use Rattle.monoid.specs.Monoid.{Model, if_valid}
use Rattle.zemor.specs.Matrix.{matrix, identity, times, inverse, bit}
use Rattle.zemor.specs.Bits.{product_of, byte_product, bits_in}
use Rattle.zemor.specs.declared.matrix.Sl2.{Sl2}
use Rattle.zemor.specs.declared.matrix.Entries.{Entries}

abbrev pub row : Sl2 → Entries
row x = matrix x.a.n x.b.n x.c.n x.d.n

abbrev pub Valid : Entries → Type 0
Valid e =
    ((e.a < prime) × (e.b < prime))
    × (((e.c < prime) × (e.d < prime)) × ((e.a * e.d) % prime ≡ (e.b * e.c + 1) % prime))

abbrev pub value : (e : Entries) → Valid e → Sl2
value e valid = record {
  a = residue e.a valid.0.0;
  b = residue e.b valid.0.1;
  c = residue e.c valid.1.0.0;
  d = residue e.d valid.1.0.1;
  valid = valid.1.1;
}

-- a value's row meets the conditions
abbrev pub row_valid : (x : Sl2) → Valid (row x)
row_valid x = ((x.a.low, x.b.low), ((x.c.low, x.d.low), x.valid))

pub valid_dec : (e : Entries) → Dec (Valid e)
valid_dec e =
    and (and (dec_lt e.a prime) (dec_lt e.b prime))
    (and (and (dec_lt e.c prime) (dec_lt e.d prime)) (ℕ_discrete ((e.a * e.d) % prime) ((e.b * e.c + 1) % prime)))

pub identity_valid : Valid identity
identity_valid = ((lit< tt, lit< tt), ((lit< tt, lit< tt), refl))

pub bit_valid : (b : Bool) → Valid (bit b)
bit_valid false = ((lit< tt, lit< tt), ((lit< tt, lit< tt), refl))
bit_valid true = ((lit< tt, lit< tt), ((lit< tt, lit< tt), refl))

pub times_valid : (x y : Entries) → Valid x → Valid y → Valid (times x y)
times_valid x y v w = (
  (below_prime _, below_prime _),
  ((below_prime _, below_prime _), det_dot prime x.a x.b x.c x.d y.a y.b y.c y.d v.1.1 w.1.1),
)

pub inverse_valid : (x : Sl2) → Valid (inverse (row x))
inverse_valid x = (
  (x.d.low, below_prime _),
  ((below_prime _, x.a.low), det_inverse prime x.a.n x.b.n x.c.n x.d.n x.b.low x.c.low x.valid),
)

pub product_valid : (w : List Bool) → Valid (product_of w)
product_valid [] = identity_valid
product_valid (b ∷ w) = times_valid (bit b) (product_of w) (bit_valid b) (product_valid w)

pub byte_valid : (k : ℕ) → Valid (byte_product k)
unfolding byte_product
byte_valid k = product_valid (bits_in k 8)

abbrev pub one : Sl2
one = value identity identity_valid

abbrev pub sl2 : Model Sl2 Entries
sl2 = record {
  empty = one;
  of_byte = λ k. value (byte_product k) (byte_valid k);
  joined = λ x y. value (times (row x) (row y)) (times_valid (row x) (row y) (row_valid x) (row_valid y));
  row = row;
  check_row = λ e. if_valid value e (valid_dec e);
  joined_rows = times;
}

abbrev pub inverse_of : Sl2 → Sl2
inverse_of x = value (inverse (row x)) (inverse_valid x)
