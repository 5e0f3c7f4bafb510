-- The laws of Karp and Rabin's fingerprint.
use Rattle.std.specs.Prelude.{◌≡◌, ℕ, ◌+◌, ◌*◌, ◌%◌, Some, Option, MatchOption, refl}
use Rattle.std.proofs.Common.{sym, ap, ◌∙◌, mul_comm, arith}
use mathlib.Core.HLevel.{×_prop}
use Rattle.std.proofs.Math.Nat.{ℕ_set, mod-mod}
use Rattle.std.proofs.Math.Bridge.{le_prop}
use Rattle.residue.specs.Residue.{prime, minus}
use Rattle.residue.proofs.Bounds.{stays}
use Rattle.residue.proofs.Modulo.{same_add, same_mul, mod_mul_left, cancels}
use Rattle.monoid.specs.Monoid.{Lawful, Inverse}
use Rattle.monoid.specs.KarpRabin.{hwv}
use Rattle.monoid.specs.KarpRabinValues.{Valid, value, row, row_valid, valid_dec, empty, karp_rabin_model, inverse_of}
use Rattle.monoid.specs.declared.karp_rabin.KarpRabin.{KarpRabin}
use Rattle.monoid.specs.declared.karp_rabin.KarpRabinRow.{KarpRabinRow}
use Rattle.monoid.specs.ValuesLemmas.{same_value, if_valid_some, if_valid_exact, if_valid_is}

valid_prop : (r : KarpRabinRow) → IsProp (Valid r)
valid_prop r = ×_prop (×_prop le_prop le_prop) (×_prop le_prop (ℕ_set _ _))

-- values with equal numbers are equal
pub same : (x y : KarpRabin) → x.h.n ≡ y.h.n → x.w.n ≡ y.w.n → x.v.n ≡ y.v.n → x ≡ y
same x y eh ew ev = same_value valid_prop value (row_valid x) (row_valid y) (λ i. hwv (eh i) (ew i) (ev i))

-- numbers equal to those of a value meet its conditions
pub like : (x : KarpRabin) (h w v : ℕ) → h ≡ x.h.n → w ≡ x.w.n → v ≡ x.v.n → Valid (hwv h w v)
like x h w v eh ew ev = rw (eh, ew, ev) (row_valid x)

back : (x : KarpRabin) → karp_rabin_model.check_row (row x) ≡ Some x
back x = if_valid_some valid_prop value (row x) (valid_dec (row x)) (row_valid x)

-- what is answered is the value with the row, or none where there is no such value
pub check_row_is : (r : KarpRabinRow) (o : Option KarpRabin) → MatchOption o (¬ (Valid r)) (λ x. row x ≡ r) → o ≡ karp_rabin_model.check_row r
check_row_is r o h = if_valid_is valid_prop value row (λ s p. refl) valid_dec back r o h

times_assoc : (a b c : ℕ) → (a * b % prime * c) % prime ≡ (a * (b * c % prime)) % prime
times_assoc a b c =
    mod_mul_left prime (a * b) c ∙ ap (λ n. n % prime) (let t : a * b * c ≡ a * (b * c) = omega arith in t)
    ∙ sym (same_mul prime a a (b * c % prime) (b * c) refl (mod-mod (b * c) prime))

-- h of three values joined in either order
joined_assoc : (h i j x y : ℕ) → ((h * x + i) % prime * y + j) % prime ≡ (h * (x * y % prime) + (i * y + j) % prime) % prime
joined_assoc h i j x y =
    same_add prime ((h * x + i) % prime * y) ((h * x + i) * y) j j (mod_mul_left prime (h * x + i) y) refl
    ∙ ap (λ n. n % prime) (let u : (h * x + i) * y + j ≡ h * (x * y) + (i * y + j) = omega arith in u)
    ∙ sym (same_add prime (h * (x * y % prime)) (h * (x * y)) ((i * y + j) % prime) (i * y + j)
    (same_mul prime h h (x * y % prime) (x * y) refl (mod-mod (x * y) prime)) (mod-mod (i * y + j) prime))

pub lawful : Lawful karp_rabin_model
lawful = record {
  left = λ x. same _ x (stays _ _ (omega arith) x.h.low) (stays _ _ (omega arith) x.w.low) (stays _ _ (omega arith) x.v.low);
  right = λ x. same _ x (stays _ _ (omega arith) x.h.low) (stays _ _ (omega arith) x.w.low) (stays _ _ (omega arith) x.v.low);
  assoc = λ x y z. same _ _ (joined_assoc x.h.n y.h.n z.h.n y.w.n z.w.n) (times_assoc x.w.n y.w.n z.w.n) (times_assoc x.v.n y.v.n z.v.n);
  back = back;
  exact = λ r x e. if_valid_exact valid_prop value row (λ s p. refl) r (valid_dec r) x e;
  rows = λ x y. refl;
}

-- w and v, multiplied in the other order
turned : (x : KarpRabin) → (x.v.n * x.w.n) % prime ≡ 1
turned x = ap (λ k. k % prime) (mul_comm x.v.n x.w.n) ∙ x.valid

after_h : (x : KarpRabin) → (x.h.n * x.v.n + minus x.h.n * x.v.n % prime) % prime ≡ 0
after_h x =
    let r = row x in
    let n = minus r.h in
    same_add prime (r.h * r.v) (r.h * r.v) (n * r.v % prime) (n * r.v) refl (mod-mod (n * r.v) prime)
    ∙ ap (λ k. k % prime) (let u : r.h * r.v + n * r.v ≡ r.v * r.h + n * r.v = omega arith in u)
    ∙ cancels prime r.v r.h x.h.low

before_h : (x : KarpRabin) → (minus x.h.n * x.v.n % prime * x.w.n + x.h.n) % prime ≡ 0
before_h x =
    let r = row x in
    let n = minus r.h in
    same_add prime (n * r.v % prime * r.w) (n * 1) r.h r.h
    (mod_mul_left prime (n * r.v) r.w ∙ ap (λ k. k % prime) (let u : n * r.v * r.w ≡ n * (r.w * r.v) = omega arith in u)
    ∙ same_mul prime n n (r.w * r.v) 1 refl x.valid) refl
    ∙ ap (λ k. k % prime) (let u : n * 1 + r.h ≡ 1 * r.h + n * 1 = omega arith in u)
    ∙ cancels prime 1 r.h x.h.low

pub inverts : Inverse karp_rabin_model inverse_of
inverts = record { after = λ x. same _ empty (after_h x) x.valid (turned x); before = λ x. same _ empty (before_h x) (turned x) x.valid }
