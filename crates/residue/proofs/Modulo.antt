-- Reckoning modulo m: two numbers agree when their remainders are equal.
use mathlib.Core.Path.{◌≡◌, refl, sym, ap, ◌∙◌}
use Prim.Native.Nat.{ℕ, ◌+◌, ◌*◌, ◌-◌, ◌%◌, ◌/◌, ◌<◌}
use native.Mathlib.Nat.{mod-add-mod, add-mod-mod, mod-mod, mod-add-div, add-mul-mod_self_left}
use native.Mathlib.Omega.{arith}

module _ (m : ℕ) where
  abbrev pub Same : ℕ → ℕ → Type 0
  Same x y = x % m ≡ y % m

  pub same_add : (x y u v : ℕ) → Same x y → Same u v → Same (x + u) (y + v)
  same_add x y u v e f =
      sym (mod-add-mod x m u) ∙ ap (λ n. (n + u) % m) e ∙ mod-add-mod y m u ∙ sym (add-mod-mod y u m)
      ∙ ap (λ n. (y + n) % m) f ∙ add-mod-mod y v m

  pub mod_mul_left : (x y : ℕ) → Same (x % m * y) (x * y)
  mod_mul_left x y =
      let whole : x % m * y + m * (x / m * y) ≡ x * y = sym (omega arith) ∙ ap (λ n. n * y) (mod-add-div x m) in
      sym (add-mul-mod_self_left (x % m * y) m (x / m * y)) ∙ ap (λ n. n % m) whole

  pub same_mul_left : (x y u : ℕ) → Same x y → Same (x * u) (y * u)
  same_mul_left x y u e = sym (mod_mul_left x u) ∙ ap (λ n. (n * u) % m) e ∙ mod_mul_left y u

  pub same_mul : (x y u v : ℕ) → Same x y → Same u v → Same (x * u) (y * v)
  same_mul x y u v e f =
      let swap : (a b : ℕ) → Same (a * b) (b * a) = λ a b. ap (λ n. n % m) (omega arith) in
      same_mul_left x y u e ∙ swap y u ∙ same_mul_left u v y f ∙ swap v y

  -- a row times a column
  abbrev pub dot : ℕ → ℕ → ℕ → ℕ → ℕ
  dot a b e g = (a * e + b * g) % m

  pub same_dot : (a b e g : ℕ) → Same (dot a b e g) (a * e + b * g)
  same_dot a b e g = mod-mod (a * e + b * g) m

  pub dot_dot : (a b e f g h i k : ℕ) → dot (dot a b e g) (dot a b f h) i k ≡ dot a b (dot e f i k) (dot g h i k)
  dot_dot a b e f g h i k =
      same_add (dot a b e g * i) ((a * e + b * g) * i) (dot a b f h * k) ((a * f + b * h) * k)
      (mod_mul_left (a * e + b * g) i) (mod_mul_left (a * f + b * h) k)
      ∙ ap (λ n. n % m) (omega arith)
      ∙ sym (same_add (a * dot e f i k) (a * (e * i + f * k)) (b * dot g h i k) (b * (g * i + h * k))
      (same_mul a a (dot e f i k) (e * i + f * k) refl (same_dot e f i k))
      (same_mul b b (dot g h i k) (g * i + h * k) refl (same_dot g h i k)))

  det_of : (x y z w : ℕ) → Same x (y + 1) → Same z (w + 1) → Same (x * z + y * w) (x * w + y * z + 1)
  det_of x y z w e f =
      same_add (x * z) ((y + 1) * (w + 1)) (y * w) (y * w) (same_mul x (y + 1) z (w + 1) e f) refl
      ∙ ap (λ n. n % m) (omega arith)
      ∙ sym (same_add (x * w + y * z) ((y + 1) * w + y * (w + 1)) 1 1
      (same_add (x * w) ((y + 1) * w) (y * z) (y * (w + 1)) (same_mul_left x (y + 1) w e) (same_mul y y z (w + 1) refl f)) refl)

  -- the determinant of a product
  pub det_dot : (a b c d e f g h : ℕ) → Same (a * d) (b * c + 1) → Same (e * h) (f * g + 1)
      → Same (dot a b e g * dot c d f h) (dot a b f h * dot c d e g + 1)
  det_dot a b c d e f g h p q =
      same_mul (dot a b e g) (a * e + b * g) (dot c d f h) (c * f + d * h) (same_dot a b e g) (same_dot c d f h)
      ∙ ap (λ n. n % m) (omega arith)
      ∙ same_add (a * e * (c * f) + b * g * (d * h)) (a * e * (c * f) + b * g * (d * h)) (a * d * (e * h) + b * c * (f * g)) (a * d * (f * g) + b * c * (e * h) + 1)
      refl (det_of (a * d) (b * c) (e * h) (f * g) p q)
      ∙ ap (λ n. n % m) (omega arith)
      ∙ sym (same_add (dot a b f h * dot c d e g) ((a * f + b * h) * (c * e + d * g)) 1 1
      (same_mul (dot a b f h) (a * f + b * h) (dot c d e g) (c * e + d * g) (same_dot a b f h) (same_dot c d e g)) refl)

  -- what is added to x to come to 0 modulo m; 0 for 0
  abbrev pub minus : ℕ → ℕ
  minus x = (m - x) % m

  pub same_minus : (x : ℕ) → Same (minus x) (m - x)
  same_minus x = mod-mod (m - x) m

  minus_minus : (x u y v : ℕ) → x + u ≡ m → y + v ≡ m → Same (u * v) (x * y)
  minus_minus x u y v e f =
      let both : u * v + m * x ≡ x * y + m * v = omega (arith, ap (λ n. n * x) f, ap (λ n. n * v) e) in
      sym (add-mul-mod_self_left (u * v) m x) ∙ ap (λ n. n % m) both ∙ add-mul-mod_self_left (x * y) m v

  pub det_inverse : (a b c d : ℕ) → b < m → c < m → Same (a * d) (b * c + 1) → Same (d * a) (minus b * minus c + 1)
  det_inverse a b c d hb hc e =
      ap (λ n. n % m) (omega arith) ∙ e
      ∙ same_add (b * c) (minus b * minus c) 1 1
      (sym (same_mul (minus b) (m - b) (minus c) (m - c) (same_minus b) (same_minus c)
      ∙ minus_minus b (m - b) c (m - c) (omega arith) (omega arith))) refl

  -- a * x + b * (m - x) is 0 where a is b
  pub cancels : (a x : ℕ) → x < m → Same (a * x + minus x * a) 0
  cancels a x h =
      same_add (a * x) (a * x) (minus x * a) ((m - x) * a) refl (mod_mul_left (m - x) a)
      ∙ ap (λ n. n % m) (let s : x + (m - x) ≡ m = omega arith in let t : a * x + (m - x) * a ≡ (x + (m - x)) * a = omega arith in t ∙ ap (λ n. n * a) s)
      ∙ ap (λ n. n % m) (let t : m * a ≡ 0 + m * a = omega arith in t) ∙ add-mul-mod_self_left 0 m a

  pub comes_to_one : (x b c : ℕ) → c < m → Same x (b * c + 1) → Same (x + minus c * b) 1
  comes_to_one x b c h e =
      same_add x (b * c + 1) (minus c * b) (minus c * b) e refl
      ∙ ap (λ n. n % m) (let t : b * c + 1 + minus c * b ≡ b * c + minus c * b + 1 = omega arith in t)
      ∙ same_add (b * c + minus c * b) 0 1 1 (cancels b c h) refl

  -- the inverses of two factors, multiplied, are the inverse of their product
  pub inverse_times : (w v x y : ℕ) → Same (w * v) 1 → Same (x * y) 1 → Same (w * x % m * (v * y % m)) 1
  inverse_times w v x y e f =
      same_mul (w * x % m) (w * x) (v * y % m) (v * y) (mod-mod (w * x) m) (mod-mod (v * y) m)
      ∙ ap (λ n. n % m) (let t : w * x * (v * y) ≡ w * v * (x * y) = omega arith in t)
      ∙ same_mul (w * v) 1 (x * y) 1 e f
