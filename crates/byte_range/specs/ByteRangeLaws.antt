-- The laws of the least and the greatest byte.
use Rattle.std.specs.Prelude.{◌≡◌, ℕ, refl, unwrap_or}
use mathlib.Core.HLevel.{×_prop}
use Rattle.std.proofs.Math.Bridge.{le_prop}
use Rattle.std.proofs.Common.{sym, ap, arith}
use Rattle.monoid.specs.Monoid.{Lawful}
use Rattle.monoid.specs.ValuesLemmas.{same_value}
use Rattle.byte_range.specs.ByteRangeValues.{Fits, value, byte_range_model}
use Rattle.byte_range.specs.declared.range.ByteRange.{ByteRange}

fits_prop : (p : ℕ × ℕ) → IsProp (Fits p)
fits_prop p = ×_prop le_prop le_prop

-- values with equal numbers are equal
pub same : (x y : ByteRange) → x.least ≡ y.least → x.greatest ≡ y.greatest → x ≡ y
same x y el eg = same_value fits_prop value x.fits y.fits (λ i. (el i, eg i))

pub lawful : Lawful byte_range_model
lawful = record {
  left = λ x. same _ x (let h = x.fits in omega arith) (omega arith);
  right = λ x. same _ x (let h = x.fits in omega arith) (omega arith);
  assoc = λ x y z. same _ _ (omega arith) (omega arith);
  back = λ x. refl;
  exact = λ r x e. sym (ap (λ o. unwrap_or o r) e);
  rows = λ x y. refl;
}
