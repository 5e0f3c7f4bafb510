-- The laws of line-column.
use Rattle.std.specs.Prelude.{◌≡◌, ℕ, ◌^◌, ◌<◌, cond, nat_lt, refl, unwrap_or}
use mathlib.Core.HLevel.{×_prop}
use Rattle.std.proofs.Math.Bridge.{le_prop}
use Rattle.std.proofs.Common.{sym, ap, arith}
use Rattle.std.proofs.lemmas.Bool.Decides.{nat_tests}
use Rattle.monoid.specs.Monoid.{Lawful}
use Rattle.monoid.specs.LineColumn.{capped}
use Rattle.monoid.specs.LineColumnValues.{Fits, value, line_column_model}
use Rattle.monoid.specs.declared.line_column.LineColumn.{LineColumn}
use Rattle.monoid.specs.ValuesLemmas.{same_value}

fits_prop : (p : ℕ × ℕ) → IsProp (Fits p)
fits_prop p = ×_prop le_prop le_prop

-- values with equal numbers are equal
pub same : (x y : LineColumn) → x.lines ≡ y.lines → x.columns ≡ y.columns → x ≡ y
same x y el ec = same_value fits_prop value x.fits y.fits (λ i. (el i, ec i))

abbrev columns_of : ℕ → ℕ → ℕ → ℕ
columns_of m c e = cond (nat_lt 0 m) e (capped c e)

columns_left : (m e : ℕ) → e < 2 ^ 32 → columns_of m 0 e ≡ e
columns_left m e h = grind (arith, nat_tests)

columns_assoc : (m n c e g : ℕ) → columns_of n (columns_of m c e) g ≡ columns_of (capped m n) c (columns_of n e g)
columns_assoc m n c e g = grind (arith, nat_tests)

pub lawful : Lawful line_column_model
lawful = record {
  left = λ x. same _ x (omega arith) (columns_left x.lines x.columns x.fits.1);
  right = λ x. same _ x (omega arith) (omega arith);
  assoc = λ x y z. same _ _ (omega arith) (columns_assoc y.lines z.lines x.columns y.columns z.columns);
  back = λ x. refl;
  exact = λ r x e. sym (ap (λ o. unwrap_or o r) e);
  rows = λ x y. refl;
}
