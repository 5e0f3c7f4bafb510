-- The fold of a text's bytes is the product of its bits, different texts have different bits, and slips always show.
use Rattle.std.proofs.Common.{◌≡◌, ℕ, zero, suc, ◌*◌, ◌/◌, ◌%◌, ◌^◌, ◌<◌, ◌≤◌, Bool, true, cond, List, [], ◌∷◌, ◌++◌, map, length, get_or, take, drop, sym, refl, ap, ◌∙◌, append_assoc, append-nil, mod-eq_of_lt, arith}
use Rattle.std.specs.Int.Digits.{number_from_digits}
use Rattle.std.proofs.lemmas.Bool.Decides.{nat_tests as by_tests}
use Rattle.monoid.specs.Monoid.{fold_of, fold_from, all_bytes}
use Rattle.monoid.proofs.Cancel.{cancel}
use Rattle.zemor.specs.Matrix.{times, bit}
use Rattle.zemor.specs.Bits.{digits_in, bits_in, is_one, text_bits, product_of, byte_product}
use Rattle.zemor.specs.Values.{sl2, row, one, value, product_valid, inverse_of}
use Rattle.zemor.specs.Slips.{SlipsShow}
use Rattle.zemor.specs.declared.matrix.Entries.{Entries}
use Rattle.zemor.specs.declared.matrix.Sl2.{Sl2}
use Rattle.zemor.proofs.Digits.{number_digits}
use Rattle.zemor.specs.Laws.{same, lawful, inverts, times_assoc}
use Rattle.zemor.proofs.Products.{tells, product_whole}

-- the value of a string of bits
pub product_value : List Bool → Sl2
product_value w = value (product_of w) (product_valid w)

pub product_append : (u v : List Bool) → product_of (u ++ v) ≡ times (product_of u) (product_of v)
product_append [] v = sym (ap row (lawful.left (value (product_of v) (product_valid v))))
product_append (b ∷ u) v = ap (times (bit b)) (product_append u v) ∙ sym (times_assoc (bit b) (product_of u) (product_of v))

-- the product of two products of bits is one
pub both : {x y : Entries} (u v : List Bool) → x ≡ product_of u → y ≡ product_of v → times x y ≡ product_of (u ++ v)
both {x} {y} u v ex ey = ap (λ z. times z y) ex ∙ ap (times (product_of u)) ey ∙ sym (product_append u v)

-- a text of five bytes, one by one
pub five_bytes : (xs : List ℕ) → length xs ≡ 5 → ((bits_in (get_or xs 0 0) 8 ++ bits_in (get_or xs 1 0) 8) ++ (bits_in (get_or xs 2 0) 8 ++ bits_in (get_or xs 3 0) 8)) ++ bits_in (get_or xs 4 0) 8 ≡ text_bits xs
five_bytes (a ∷ b ∷ c ∷ d ∷ e ∷ []) h = simp (append_assoc, append-nil)
five_bytes [] h = absurd (omega arith)
five_bytes (a ∷ []) h = absurd (omega arith)
five_bytes (a ∷ b ∷ []) h = absurd (omega arith)
five_bytes (a ∷ b ∷ c ∷ []) h = absurd (omega arith)
five_bytes (a ∷ b ∷ c ∷ d ∷ []) h = absurd (omega arith)
five_bytes (a ∷ b ∷ c ∷ d ∷ e ∷ (f ∷ xs)) h = absurd (omega arith)

fold_bits : (x : Sl2) (text : List ℕ) → row (fold_from sl2 x text) ≡ times (row x) (product_of (text_bits text))
unfolding byte_product
fold_bits x [] = sym (ap row (lawful.right x))
fold_bits x (k ∷ ks) =
    fold_bits (sl2.joined x (sl2.of_byte k)) ks ∙ times_assoc (row x) (byte_product k) (product_of (text_bits ks))
    ∙ ap (times (row x)) (sym (product_append (bits_in k 8) (text_bits ks)))

-- the fingerprint of a text is the product of its bits
pub fold_product : (text : List ℕ) → row (fold_of sl2 text) ≡ product_of (text_bits text)
fold_product text = fold_bits one text ∙ ap row (lawful.left (value (product_of (text_bits text)) (product_valid (text_bits text))))

digit_of : Bool → ℕ
digit_of b = cond b 1 0

digit_back : (x : ℕ) → digit_of (is_one (x % 2)) ≡ x % 2
unfolding digit_of
digit_back x = grind (arith, by_tests)

digits_back : (x n : ℕ) → map digit_of (bits_in x n) ≡ digits_in 2 x n
digits_back x zero = refl
digits_back x (suc n) = ap (λ k. k ∷ map digit_of (bits_in x n)) (digit_back (x / 2 ^ n)) ∙ ap (λ t. x / 2 ^ n % 2 ∷ t) (digits_back x n)

byte_back : (k l : ℕ) → k < 256 → l < 256 → bits_in k 8 ≡ bits_in l 8 → k ≡ l
byte_back k l hk hl e =
    let value_back : (n : ℕ) → n < 256 → number_from_digits 2 (map digit_of (bits_in n 8)) ≡ n =
    λ n h. ap (number_from_digits 2) (digits_back n 8) ∙ number_digits 2 (omega arith) n 8 ∙ mod-eq_of_lt h in
    sym (value_back k hk) ∙ ap (λ w. number_from_digits 2 (map digit_of w)) e ∙ value_back l hl

first_byte : (k : ℕ) (ks : List ℕ) → all_bytes (k ∷ ks) ≡ true → k < 256
first_byte k ks h = grind (arith, by_tests)

other_bytes : (k : ℕ) (ks : List ℕ) → all_bytes (k ∷ ks) ≡ true → all_bytes ks ≡ true
other_bytes k ks h = grind (arith, by_tests)

-- different texts have different bits
pub text_back : (s t : List ℕ) → all_bytes s ≡ true → all_bytes t ≡ true → text_bits s ≡ text_bits t → s ≡ t
text_back [] [] hs ht e = refl
text_back [] (k ∷ t) hs ht e = let z : ◌≡◌ {A = ℕ} 0 1 = cc in absurd (omega arith)
text_back (k ∷ s) [] hs ht e = let z : ◌≡◌ {A = ℕ} 0 1 = cc in absurd (omega arith)
text_back (k ∷ s) (l ∷ t) hs ht e =
    ap (λ n. n ∷ s) (byte_back k l (first_byte k s hs) (first_byte l t ht) (ap (take 8) e))
    ∙ ap (λ r. l ∷ r) (text_back s t (other_bytes k s hs) (other_bytes l t ht) (ap (drop 8) e))

pub length_text_bits : (w : List ℕ) → length (text_bits w) ≡ 8 * length w
length_text_bits [] = refl
length_text_bits (k ∷ w) = let h = length_text_bits w in omega arith

-- two products of bits with a slip of at most 45 bits between them are equal only where the slip is none
slip_shows : (u w x v : List Bool) → length w ≤ 45 → length x ≤ 45 → product_of (u ++ (w ++ v)) ≡ product_of (u ++ (x ++ v)) → w ≡ x
unfolding product_value
slip_shows u w x v hw hx e =
    let three : (z : List Bool) → product_of (u ++ (z ++ v)) ≡ times (product_of u) (times (product_of z) (product_of v)) =
    λ z. product_append u (z ++ v) ∙ ap (times (product_of u)) (product_append z v) in
    let inner = cancel sl2 inverse_of lawful inverts (product_value u) (product_value v) (product_value w) (product_value x)
    (same _ _ (sym (three w) ∙ e ∙ three x)) in
    tells w x (sym (product_whole w hw) ∙ ap row inner ∙ product_whole x hx)

pub slips_show : SlipsShow
slips_show s t hs ht slip = (
  λ e.
      let products : product_of (slip.u ++ (slip.w ++ slip.v)) ≡ product_of (slip.u ++ (slip.x ++ slip.v)) =
      ap product_of (sym slip.one_bits) ∙ sym (fold_product s) ∙ ap row e ∙ fold_product t ∙ ap product_of slip.other_bits in
      let none = slip_shows slip.u slip.w slip.x slip.v slip.w_short slip.x_short products in
      text_back s t hs ht (slip.one_bits ∙ ap (λ z. slip.u ++ (z ++ slip.v)) none ∙ sym slip.other_bits),
  λ e. ap (fold_of sl2) e,
)
