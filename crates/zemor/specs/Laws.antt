-- The laws of the product and the inverse.
use Rattle.std.specs.Prelude.{◌≡◌, ℕ, ◌+◌, ◌*◌, ◌%◌, ◌<◌, Some, None, Option, MatchOption, refl}
use Rattle.std.proofs.Common.{sym, ap, ◌∙◌, arith}
use mathlib.Core.HLevel.{×_prop}
use Rattle.std.proofs.Math.Nat.{ℕ_set}
use Rattle.std.proofs.Math.Bridge.{le_prop}
use Rattle.residue.specs.Residue.{prime, minus}
use Rattle.residue.proofs.Bounds.{stays}
use Rattle.residue.proofs.Modulo.{dot_dot, cancels, comes_to_one}
use Rattle.monoid.specs.Monoid.{Lawful, Inverse}
use Rattle.monoid.specs.ValuesLemmas.{same_value, if_valid_some, if_valid_exact, if_valid_is}
use Rattle.zemor.specs.Matrix.{matrix, times}
use Rattle.zemor.specs.Values.{Valid, value, row, row_valid, valid_dec, one, sl2, inverse_of}
use Rattle.zemor.specs.declared.matrix.Sl2.{Sl2}
use Rattle.zemor.specs.declared.matrix.Entries.{Entries}

-- matrices with equal entries are equal
pub four : (x y : Entries) → x.a ≡ y.a → x.b ≡ y.b → x.c ≡ y.c → x.d ≡ y.d → x ≡ y
four x y ea eb ec ed = λ i. matrix (ea i) (eb i) (ec i) (ed i)

valid_prop : (e : Entries) → IsProp (Valid e)
valid_prop e = ×_prop (×_prop le_prop le_prop) (×_prop (×_prop le_prop le_prop) (ℕ_set _ _))

-- values with equal entries are equal
pub same : (x y : Sl2) → row x ≡ row y → x ≡ y
same x y e = same_value valid_prop value (row_valid x) (row_valid y) e

-- entries equal to those of a value meet its conditions
pub like : (x : Sl2) (e : Entries) → e ≡ row x → Valid e
like x e h = rw h (row_valid x)

pub back : (x : Sl2) → sl2.check_row (row x) ≡ Some x
back x = if_valid_some valid_prop value (row x) (valid_dec (row x)) (row_valid x)

pub exact : (e : Entries) (x : Sl2) → sl2.check_row e ≡ Some x → row x ≡ e
exact e x h = if_valid_exact valid_prop value row (λ s p. refl) e (valid_dec e) x h

-- what is answered is the value with these entries, or none where there is no such value
pub check_row_is : (e : Entries) (o : Option Sl2) → MatchOption o (¬ (Valid e)) (λ x. row x ≡ e) → o ≡ sl2.check_row e
check_row_is e o h = if_valid_is valid_prop value row (λ s p. refl) valid_dec back e o h

-- where no value is found, the entries do not meet the conditions
pub none_invalid : (e : Entries) → sl2.check_row e ≡ None → ¬ (Valid e)
none_invalid e h v = cc (sym (if_valid_some valid_prop value e (valid_dec e) v) ∙ h)

-- entries below p are their own remainders
low : (x : Sl2) (e : Entries) → e.a ≡ x.a.n → e.b ≡ x.b.n → e.c ≡ x.c.n → e.d ≡ x.d.n
    → matrix (e.a % prime) (e.b % prime) (e.c % prime) (e.d % prime) ≡ row x
low x e ea eb ec ed =
    four _ (row x) (stays _ _ ea x.a.low) (stays _ _ eb x.b.low) (stays _ _ ec x.c.low) (stays _ _ ed x.d.low)

pub times_assoc : (x y z : Entries) → times (times x y) z ≡ times x (times y z)
times_assoc x y z =
    four (times (times x y) z) (times x (times y z))
    (dot_dot prime x.a x.b y.a y.b y.c y.d z.a z.c)
    (dot_dot prime x.a x.b y.a y.b y.c y.d z.b z.d)
    (dot_dot prime x.c x.d y.a y.b y.c y.d z.a z.c)
    (dot_dot prime x.c x.d y.a y.b y.c y.d z.b z.d)

whole_of : Entries → Entries → Entries
whole_of x y =
    matrix (x.a * y.a + x.b * y.c) (x.a * y.b + x.b * y.d) (x.c * y.a + x.d * y.c) (x.c * y.b + x.d * y.d)

pub lawful : Lawful sl2
unfolding whole_of
lawful = record {
  left = λ x. same _ x (low x (whole_of (row one) (row x)) (omega arith) (omega arith) (omega arith) (omega arith));
  right = λ x. same _ x (low x (whole_of (row x) (row one)) (omega arith) (omega arith) (omega arith) (omega arith));
  assoc = λ x y z. same _ _ (times_assoc (row x) (row y) (row z));
  back = back;
  exact = exact;
  rows = λ x y. refl;
}

-- a sum that is turned to come to 0 or to 1
zero_by : (n a x : ℕ) → n ≡ a * x + minus x * a → x < prime → n % prime ≡ 0
zero_by n a x e h = ap (λ k. k % prime) e ∙ cancels prime a x h

one_by : (n x b c : ℕ) → n ≡ x + minus c * b → c < prime → x % prime ≡ (b * c + 1) % prime → n % prime ≡ 1
one_by n x b c e h d = ap (λ k. k % prime) e ∙ comes_to_one prime x b c h d

-- the determinant with b and c the other way round
turned : (x : Sl2) → (x.a.n * x.d.n) % prime ≡ (x.c.n * x.b.n + 1) % prime
turned x = x.valid ∙ ap (λ n. n % prime) (omega arith)

after_entries : (x : Sl2) → times (row x) (row (inverse_of x)) ≡ row one
after_entries x =
    let e = row x in
    four _ (row one)
    (one_by _ (e.a * e.d) e.b e.c (omega arith) x.c.low x.valid)
    (zero_by _ e.a e.b (omega arith) x.b.low)
    (zero_by _ e.d e.c (omega arith) x.c.low)
    (one_by _ (e.a * e.d) e.c e.b (omega arith) x.b.low (turned x))

before_entries : (x : Sl2) → times (row (inverse_of x)) (row x) ≡ row one
before_entries x =
    let e = row x in
    four _ (row one)
    (one_by _ (e.a * e.d) e.c e.b (omega arith) x.b.low (turned x))
    (zero_by _ e.d e.b (omega arith) x.b.low)
    (zero_by _ e.a e.c (omega arith) x.c.low)
    (one_by _ (e.a * e.d) e.b e.c (omega arith) x.c.low x.valid)

pub inverts : Inverse sl2 inverse_of
inverts = record { after = λ x. same _ one (after_entries x); before = λ x. same _ one (before_entries x) }
