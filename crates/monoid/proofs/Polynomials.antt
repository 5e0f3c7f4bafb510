-- The fold of a text by Karp and Rabin is its polynomial, and the power of the base that shifts by its length.
use Rattle.std.proofs.Common.{◌≡◌, ℕ, ◌+◌, ◌*◌, ◌%◌, ◌^◌, List, [], ◌∷◌, length, refl, sym, ap, ◌∙◌, pow-suc, arith}
use native.Mathlib.Nat.{pow-zero, mod-mod}
use Rattle.residue.specs.Residue.{prime}
use Rattle.residue.proofs.Bounds.{stays}
use Rattle.residue.proofs.Modulo.{same_add, same_mul_left, mod_mul_left}
use Rattle.monoid.specs.Monoid.{fold_from, fold_of}
use Rattle.monoid.specs.KarpRabin.{polynomial}
use Rattle.monoid.specs.KarpRabinValues.{karp_rabin_model}
use Rattle.monoid.specs.declared.karp_rabin.KarpRabin.{KarpRabin}

-- h of one byte more, shifted by q
shifted : (h k q : ℕ) → ((h * 16807 + (k + 1) % prime) % prime * q) % prime ≡ ((h * 16807 + (k + 1)) * q) % prime
shifted h k q =
    mod_mul_left prime (h * 16807 + (k + 1) % prime) q
    ∙ same_mul_left prime (h * 16807 + (k + 1) % prime) (h * 16807 + (k + 1)) q
    (same_add prime (h * 16807) (h * 16807) ((k + 1) % prime) (k + 1) refl (mod-mod (k + 1) prime))

h_from : (x : KarpRabin) (text : List ℕ) → (fold_from karp_rabin_model x text).h.n ≡ (x.h.n * 16807 ^ length text + polynomial text) % prime
h_from x [] = sym (stays _ x.h.n (ap (λ q. x.h.n * q + 0) (pow-zero 16807) ∙ omega arith) x.h.low)
h_from x (k ∷ ks) =
    let h = x.h.n in
    let q = 16807 ^ length ks in
    let rest = polynomial ks in
    let more : (h * 16807 + (k + 1)) * q + rest ≡ h * (q * 16807) + ((k + 1) * q + rest) = omega arith in
    h_from (karp_rabin_model.joined x (karp_rabin_model.of_byte k)) ks
    ∙ same_add prime ((h * 16807 + (k + 1) % prime) % prime * q) ((h * 16807 + (k + 1)) * q) rest rest (shifted h k q) refl
    ∙ ap (λ n. n % prime) (more ∙ ap (λ r. h * r + ((k + 1) * q + rest)) (sym (pow-suc 16807 (length ks))))

w_from : (x : KarpRabin) (text : List ℕ) → (fold_from karp_rabin_model x text).w.n ≡ (x.w.n * 16807 ^ length text) % prime
w_from x [] = sym (stays _ x.w.n (ap (λ q. x.w.n * q) (pow-zero 16807) ∙ omega arith) x.w.low)
w_from x (k ∷ ks) =
    let w = x.w.n in
    let q = 16807 ^ length ks in
    let more : w * 16807 * q ≡ w * (q * 16807) = omega arith in
    w_from (karp_rabin_model.joined x (karp_rabin_model.of_byte k)) ks
    ∙ mod_mul_left prime (w * 16807) q
    ∙ ap (λ n. n % prime) (more ∙ ap (λ r. w * r) (sym (pow-suc 16807 (length ks))))

pub h_of : (text : List ℕ) → (fold_of karp_rabin_model text).h.n ≡ polynomial text % prime
h_of text = h_from karp_rabin_model.empty text ∙ ap (λ n. n % prime) (let t : 0 * 16807 ^ length text + polynomial text ≡ polynomial text = omega arith in t)

pub w_of : (text : List ℕ) → (fold_of karp_rabin_model text).w.n ≡ 16807 ^ length text % prime
w_of text = w_from karp_rabin_model.empty text ∙ ap (λ n. n % prime) (let t : 1 * 16807 ^ length text ≡ 16807 ^ length text = omega arith in t)
