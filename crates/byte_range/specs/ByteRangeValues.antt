-- The values are the pairs of two bytes, and each is its own row.
use Rattle.std.specs.Prelude.{ℕ, Some}
use Rattle.std.proofs.Common.{arith, lit<}
use Rattle.monoid.specs.Monoid.{Model}
use Rattle.byte_range.specs.ByteRange as pairs
use Rattle.byte_range.specs.declared.range.ByteRange.{ByteRange, fits-type}

abbrev pub numbers : ByteRange → ℕ × ℕ
numbers x = (x.least, x.greatest)

abbrev pub Fits : ℕ × ℕ → Type 0
Fits p = fits-type p.0 p.1

abbrev pub value : (p : ℕ × ℕ) → Fits p → ByteRange
value p fits = record { least = p.0; greatest = p.1; fits = fits }

pub of_byte_fits : (k : ℕ) → Fits (pairs.of_byte k)
of_byte_fits k = (omega arith, omega arith)

pub joined_fits : (x y : ByteRange) → Fits (pairs.joined (numbers x) (numbers y))
joined_fits x y = (omega arith, omega arith)

abbrev pub joined : ByteRange → ByteRange → ByteRange
joined x y = value (pairs.joined (numbers x) (numbers y)) (joined_fits x y)

abbrev pub byte_range_model : Model ByteRange ByteRange
byte_range_model = record {
  empty = value pairs.empty (lit< tt, lit< tt);
  of_byte = λ k. value (pairs.of_byte k) (of_byte_fits k);
  joined = joined;
  row = λ x. x;
  check_row = λ x. Some x;
  joined_rows = joined;
}
