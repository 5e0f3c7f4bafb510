-- Remainders are small, and small numbers are their own remainders.
use mathlib.Core.Path.{◌≡◌, ap, ◌∙◌}
use Prim.Native.Nat.{ℕ, ◌%◌, ◌<◌}
use native.Mathlib.Nat.{mod-lt, mod-eq_of_lt}
use lib.Dec.{lit<}
use Rattle.residue.specs.Residue.{prime}

pub below_prime : (n : ℕ) → n % prime < prime
below_prime n = mod-lt n (lit< tt)

pub stays : (n x : ℕ) → n ≡ x → x < prime → n % prime ≡ x
stays n x e h = ap (λ k. k % prime) e ∙ mod-eq_of_lt h
