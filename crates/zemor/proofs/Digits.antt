-- The n lowest digits of a number in a base.
use Rattle.std.proofs.Common.{◌≡◌, ℕ, zero, suc, ◌+◌, ◌*◌, ◌/◌, ◌%◌, ◌^◌, ◌<◌, List, [], ◌∷◌, ◌++◌, length, drop, sym, refl, ap, ◌∙◌, lt_of_lt_of_le, add-zero, mod-eq_of_lt, mul_comm, suc-add, pow-suc, zero-add, div-one, arith, pow-add}
use native.Mathlib.Nat.{pow-zero, pow-le-pow_right, div-div-eq-div-mul, mod-one, add-mul-div_left, add-mul-mod_self_left, mul-add-div_right, mod-add-div, div-eq_of_lt}
use lib.Arith.{mod-mul}
use Rattle.std.specs.Int.Digits.{number_from_digits, number_from_digits_after, AllBelowBase}
use Rattle.std.proofs.lemmas.Int.Digits.{number_lt}
use Rattle.zemor.specs.Bits.{digits_in}

module _ (b : ℕ) (pos : 0 < b) where
  pub power : (n : ℕ) → 0 < b ^ n
  power n = lt_of_lt_of_le (omega (arith, pow-zero b)) (pow-le-pow_right {n = b} pos {i = 0} {j = n} (omega arith))

  pub length_digits : (x n : ℕ) → length (digits_in b x n) ≡ n
  length_digits x zero = refl
  length_digits x (suc n) = ap suc (length_digits x n)

  -- the higher digits, and the lower ones
  pub digits_split : (x m n : ℕ) → digits_in b x (m + n) ≡ digits_in b (x / b ^ n) m ++ digits_in b x n
  digits_split x zero n = ap (digits_in b x) (zero-add n)
  digits_split x (suc m) n =
      let high : x / b ^ (m + n) ≡ x / b ^ n / b ^ m =
      ap (λ k. x / k) (pow-add b m n ∙ mul_comm (b ^ m) (b ^ n)) ∙ sym (div-div-eq-div-mul x (b ^ n) (b ^ m)) in
      ap (digits_in b x) (suc-add m n) ∙ ap (λ k. k % b ∷ digits_in b x (m + n)) high ∙ ap (λ t. x / b ^ n / b ^ m % b ∷ t) (digits_split x m n)

  pub digits_drop : (x m n : ℕ) → drop m (digits_in b x (m + n)) ≡ digits_in b x n
  digits_drop x zero n = ap (digits_in b x) (zero-add n)
  digits_drop x (suc m) n = ap (λ k. drop (suc m) (digits_in b x k)) (suc-add m n) ∙ digits_drop x m n

  -- what stands above the digits does not change them
  digits_above : (j x q : ℕ) → digits_in b (x + b ^ j * q) j ≡ digits_in b x j
  digits_above zero x q = refl
  digits_above (suc j) x q =
      let more : x + b ^ suc j * q ≡ x + b ^ j * (b * q) = ap (λ p. x + p * q) (pow-suc b j) ∙ omega arith in
      let high : (x + b ^ j * (b * q)) / b ^ j % b ≡ x / b ^ j % b =
      ap (λ k. k % b) (add-mul-div_left x (b * q) (power j)) ∙ add-mul-mod_self_left (x / b ^ j) b q in
      ap (λ y. digits_in b y (suc j)) more ∙ ap (λ k. k ∷ digits_in b (x + b ^ j * (b * q)) j) high
      ∙ ap (λ t. x / b ^ j % b ∷ t) (digits_above j x (b * q))

  pub digits_mod : (x j : ℕ) → digits_in b (x % b ^ j) j ≡ digits_in b x j
  digits_mod x j = sym (digits_above j (x % b ^ j) (x / b ^ j)) ∙ ap (λ y. digits_in b y j) (mod-add-div x (b ^ j))

  -- one digit more at the end
  pub digits_push : (x d n : ℕ) → d < b → digits_in b (x * b + d) (suc n) ≡ digits_in b x n ++ (d ∷ [])
  digits_push x d zero h =
      ap (λ k. k ∷ [])
      (ap (λ k. (x * b + d) / k % b) (pow-zero b) ∙ ap (λ k. k % b) (div-one (x * b + d)) ∙ ap (λ k. k % b) (let t : x * b + d ≡ d + b * x = omega arith in t) ∙ add-mul-mod_self_left d b x ∙ mod-eq_of_lt h)
  digits_push x d (suc n) h =
      let low : (x * b + d) / b ≡ x = mul-add-div_right pos x d ∙ ap (λ k. x + k) (div-eq_of_lt h) ∙ add-zero x in
      let high : (x * b + d) / b ^ suc n ≡ x / b ^ n =
      ap (λ k. (x * b + d) / k) (pow-suc b n ∙ mul_comm (b ^ n) b) ∙ sym (div-div-eq-div-mul (x * b + d) b (b ^ n)) ∙ ap (λ k. k / b ^ n) low in
      ap (λ k. k % b ∷ digits_in b (x * b + d) (suc n)) high ∙ ap (λ t. x / b ^ n % b ∷ t) (digits_push x d n h)

  number_after : (a : ℕ) (ds : List ℕ) → number_from_digits_after b a ds ≡ a * b ^ length ds + number_from_digits b ds
  number_after a [] = sym (ap (λ k. a * k + 0) (pow-zero b) ∙ omega arith)
  number_after a (d ∷ ds) =
      let p = b ^ length ds in
      let one : number_from_digits_after b (a * b + d) ds ≡ (a * b + d) * p + number_from_digits b ds = number_after (a * b + d) ds in
      let two : number_from_digits_after b (0 * b + d) ds ≡ (0 * b + d) * p + number_from_digits b ds = number_after (0 * b + d) ds in
      let up : a * b ^ suc (length ds) ≡ a * (p * b) = ap (λ k. a * k) (pow-suc b (length ds)) in
      omega (arith, one, two, up)

  -- the number that the digits write
  pub number_digits : (x n : ℕ) → number_from_digits b (digits_in b x n) ≡ x % b ^ n
  number_digits x zero = sym (ap (λ k. x % k) (pow-zero b) ∙ mod-one x)
  number_digits x (suc n) =
      let d = x / b ^ n % b in
      number_after (0 * b + d) (digits_in b x n)
      ∙ ap (λ k. (0 * b + d) * b ^ k + number_from_digits b (digits_in b x n)) (length_digits x n)
      ∙ ap (λ k. (0 * b + d) * b ^ n + k) (number_digits x n)
      ∙ ap (λ k. k * b ^ n + x % b ^ n) (let t : 0 * b + d ≡ d = omega arith in t)
      ∙ sym (mod-mul x {m = b} {c = b ^ n} pos (power n)) ∙ ap (λ k. x % k) (sym (pow-suc b n ∙ mul_comm (b ^ n) b))

  digits_after : (a : ℕ) (ds : List ℕ) → AllBelowBase b ds → digits_in b (number_from_digits_after b a ds) (length ds) ≡ ds
  digits_after a [] u = refl
  digits_after a (d ∷ ds) u =
      let p = b ^ length ds in
      let high : number_from_digits_after b (a * b + d) ds / p % b ≡ d =
      ap (λ k. k / p % b) (number_after (a * b + d) ds)
      ∙ ap (λ k. k % b) (mul-add-div_right (power (length ds)) (a * b + d) (number_from_digits b ds) ∙ ap (λ k. a * b + d + k) (div-eq_of_lt (number_lt b ds u.1)) ∙ add-zero (a * b + d))
      ∙ ap (λ k. k % b) (let t : a * b + d ≡ d + b * a = omega arith in t) ∙ add-mul-mod_self_left d b a ∙ mod-eq_of_lt u.0 in
      ap (λ k. k ∷ digits_in b (number_from_digits_after b (a * b + d) ds) (length ds)) high ∙ ap (λ t. d ∷ t) (digits_after (a * b + d) ds u.1)

  -- the digits of the number that digits write
  pub digits_number : (ds : List ℕ) → AllBelowBase b ds → digits_in b (number_from_digits b ds) (length ds) ≡ ds
  digits_number ds u = digits_after 0 ds u

pub bytes_mod : (x : ℕ) → digits_in 2 (x % 256) 8 ≡ digits_in 2 x 8
bytes_mod x = digits_mod 2 (omega arith) x 8
