-- Strings of bits cut into bytes, and reading a window back.
use Rattle.std.proofs.Common.{◌≡◌, ℕ, zero, suc, ◌+◌, ◌*◌, ◌/◌, ◌%◌, ◌^◌, ◌<◌, ◌≤◌, true, List, ◌∷◌, ◌++◌, map, length, Some, None, sym, refl, ap, ◌∙◌, mod-lt, pow-suc, arith, lit<, pow-add}
use Rattle.std.proofs.lemmas.List.{map-append}
use Rattle.std.proofs.lemmas.Bool.Decides.{nat_tests as by_tests}
use Rattle.monoid.specs.Monoid.{fold_of, all_bytes}
use Rattle.zemor.specs.Bits.{digits_in, bits_in, is_one, text_bits, product_of}
use Rattle.zemor.specs.Values.{sl2, row}
use Rattle.zemor.specs.Peeling.{Tells, spelled}
use Rattle.zemor.specs.Windows.{window_text, AtMostFive, Windowed}
use Rattle.zemor.specs.declared.matrix.Sl2.{Sl2}
use Rattle.zemor.specs.declared.peel.Bits.{Bits}
use Rattle.zemor.specs.declared.window.Window.{Window}
use Rattle.zemor.proofs.Digits.{digits_split, bytes_mod, length_digits}
use Rattle.zemor.specs.Laws.{same}
use Rattle.zemor.proofs.Strings.{length_bits}
use Rattle.zemor.proofs.Texts.{fold_product, text_back, length_text_bits}

power_8 : (n : ℕ) → 256 ^ n ≡ 2 ^ (8 * n)
power_8 zero = refl
power_8 (suc n) =
    pow-suc 256 n ∙ ap (λ k. k * 256) (power_8 n) ∙ sym (pow-add 2 (8 * n) 8) ∙ ap (λ k. 2 ^ k) (let t : 8 * n + 8 ≡ 8 * suc n = omega arith in t)

-- the bits of the n lowest bytes of a number
pub text_bits_in : (x n : ℕ) → text_bits (digits_in 256 x n) ≡ bits_in x (8 * n)
text_bits_in x zero = refl
text_bits_in x (suc n) =
    let y = x / 256 ^ n in
    ap (λ t. bits_in (y % 256) 8 ++ t) (text_bits_in x n)
    ∙ ap (λ ds. map is_one ds ++ bits_in x (8 * n)) (bytes_mod y ∙ ap (λ k. digits_in 2 (x / k) 8) (power_8 n))
    ∙ sym (map-append is_one (digits_in 2 (x / 2 ^ (8 * n)) 8) (digits_in 2 x (8 * n)))
    ∙ ap (map is_one) (sym (digits_split 2 (omega arith) x 8 (8 * n)))
    ∙ ap (bits_in x) (let t : 8 + 8 * n ≡ 8 * suc n = omega arith in t)

both_true : (k : ℕ) (ks : List ℕ) → k < 256 → all_bytes ks ≡ true → all_bytes (k ∷ ks) ≡ true
both_true k ks h e = grind (arith, by_tests)

pub all_bytes_in : (x n : ℕ) → all_bytes (digits_in 256 x n) ≡ true
all_bytes_in x zero = refl
all_bytes_in x (suc n) = both_true (x / 256 ^ n % 256) (digits_in 256 x n) (mod-lt (x / 256 ^ n) (lit< tt)) (all_bytes_in x n)

module _ (x : Sl2) where
  -- the bits of a text of at most five bytes
  bits_of : (w : List ℕ) → fold_of sl2 w ≡ x → product_of (text_bits w) ≡ row x
  bits_of w e = sym (fold_product w) ∙ ap row e

  few_bits : (w : List ℕ) → AtMostFive w → length (text_bits w) ≤ 45
  few_bits w h = omega (arith, length_text_bits w, h.few)

  pub window_none : Tells x None → Windowed x None
  window_none p w h e = p (text_bits w) (few_bits w h) (bits_of w e)

  pub window_odd : (s : Bits) → Tells x (Some s) → (s.len % 8 ≡ 0 → ⊥) → Windowed x None
  window_odd s p n w h e =
      let long = ap length (p.1 (text_bits w) (few_bits w h) (bits_of w e)) ∙ length_bits s.word s.len in
      n (omega (arith, length_text_bits w, long))

  pub window_some : (s : Bits) (r : Window) → Tells x (Some s) → s.len % 8 ≡ 0 → window_text r ≡ digits_in 256 s.word (s.len / 8) → Windowed x (Some r)
  window_some s r p whole is =
      let n = s.len / 8 in
      let cut : text_bits (window_text r) ≡ spelled s =
      ap text_bits is ∙ text_bits_in s.word n ∙ ap (bits_in s.word) (let t : 8 * n ≡ s.len = omega arith in t) in
      let bytes : all_bytes (window_text r) ≡ true = ap all_bytes is ∙ all_bytes_in s.word n in
      let few : length (window_text r) ≤ 5 = omega (arith, ap length is, length_digits 256 (omega arith) s.word n, s.short) in (
        record { bytes = bytes; few = few },
        same (fold_of sl2 (window_text r)) x (fold_product (window_text r) ∙ ap product_of cut ∙ p.0),
        λ w h e. text_back w (window_text r) h.bytes bytes (p.1 (text_bits w) (few_bits w h) (bits_of w e) ∙ sym cut),
      )
