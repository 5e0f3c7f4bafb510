-- The values of line-column are the pairs of numbers that fit 32 bits, and each is its own row.
use Rattle.std.specs.Prelude.{ℕ, Some}
use Rattle.std.proofs.Common.{arith, lit<}
use Rattle.std.proofs.lemmas.Bool.Decides.{nat_tests}
use Rattle.monoid.specs.Monoid.{Model}
use Rattle.monoid.specs.LineColumn as pairs
use Rattle.monoid.specs.declared.line_column.LineColumn.{LineColumn, fits-type}

abbrev pub numbers : LineColumn → ℕ × ℕ
numbers x = (x.lines, x.columns)

abbrev pub Fits : ℕ × ℕ → Type 0
Fits p = fits-type p.0 p.1

abbrev pub value : (p : ℕ × ℕ) → Fits p → LineColumn
value p fits = record { lines = p.0; columns = p.1; fits = fits }

pub of_byte_fits : (k : ℕ) → Fits (pairs.of_byte k)
of_byte_fits k = grind arith

pub joined_fits : (x y : LineColumn) → Fits (pairs.joined (numbers x) (numbers y))
joined_fits x y = (omega arith, grind (arith, nat_tests))

abbrev pub joined : LineColumn → LineColumn → LineColumn
joined x y = value (pairs.joined (numbers x) (numbers y)) (joined_fits x y)

abbrev pub line_column_model : Model LineColumn LineColumn
line_column_model = record {
  empty = value pairs.empty (lit< tt, lit< tt);
  of_byte = λ k. value (pairs.of_byte k) (of_byte_fits k);
  joined = joined;
  row = λ x. x;
  check_row = λ x. Some x;
  joined_rows = joined;
}
