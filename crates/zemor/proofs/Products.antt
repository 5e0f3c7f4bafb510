-- Products of bits: their first bit, that they tell their string, how large they are, and what they are modulo p.
use Rattle.std.proofs.Common.{◌≡◌, ℕ, zero, suc, ◌+◌, ◌-◌, ◌*◌, ◌%◌, ◌<◌, ◌≤◌, ◌⊎◌, inl, inr, Bool, true, false, List, [], ◌∷◌, ◌++◌, length, Some, sym, refl, ap, ◌∙◌, le_trans, le_refl, mod-eq_of_lt, zero-add, add-one, arith, length-append}
use native.Mathlib.Nat.{mod-mod}
use native.Mathlib.Decide.{le_ind}
use Rattle.residue.specs.Residue.{prime}
use Rattle.residue.proofs.Modulo.{dot, same_add, same_mul}
use Rattle.zemor.specs.Matrix.{identity, bit, matrix, times}
use Rattle.zemor.specs.Bits.{product_of}
use Rattle.residue.specs.Fibonacci.{fib}
use Rattle.zemor.specs.Whole.{whole, whole_times, Bounded, Attained, FewBits}
use Rattle.zemor.specs.Peeling.{First}
use Rattle.zemor.specs.declared.matrix.Entries.{Entries}
use Rattle.zemor.specs.Laws.{four}

pub positive : (w : List Bool) → (0 < (whole w).a) × (0 < (whole w).d)
positive [] = omega arith
positive (false ∷ w) = let h = positive w in omega arith
positive (true ∷ w) = let h = positive w in omega arith

-- the four equations in one
pub record Entrywise (x y : Entries) : Type 0 where
  pub at_a : x.a ≡ y.a
  pub at_b : x.b ≡ y.b
  pub at_c : x.c ≡ y.c
  pub at_d : x.d ≡ y.d

pub entrywise : {x y : Entries} → x ≡ y → Entrywise x y
entrywise e = record { at_a = ap (λ m. m.a) e; at_b = ap (λ m. m.b) e; at_c = ap (λ m. m.c) e; at_d = ap (λ m. m.d) e }

module _ (m : Entries) where
  abbrev pub less_0 : Entries
  less_0 = record { a = m.a - m.c; b = m.b - m.d; c = m.c; d = m.d }

  after_0 : m.c ≤ m.a → m.d ≤ m.b → (b : Bool) (w : List Bool) → whole (b ∷ w) ≡ m → (b ≡ false) × (whole w ≡ less_0)
  after_0 h k false w e =
      let s = entrywise e in (refl, four (whole w) less_0 (omega arith) (omega arith) (omega arith) (omega arith))
  after_0 h k true w e = let s = entrywise e in let p = positive w in absurd (omega arith)

  pub first_0 : m.c ≤ m.a → m.d ≤ m.b → First m (Some (false, less_0))
  first_0 h k = (four (whole_times (bit false) less_0) m (omega arith) (omega arith) (omega arith) (omega arith), after_0 h k)

-- the empty product is no other
pub one_is_empty : (b : Bool) (w : List Bool) → whole (b ∷ w) ≡ identity → ⊥
one_is_empty false w e = let s = entrywise e in let p = positive w in omega arith
one_is_empty true w e = let s = entrywise e in let p = positive w in omega arith

-- different strings have different products
pub tells : (u v : List Bool) → whole u ≡ whole v → u ≡ v
tells [] [] e = refl
tells [] (b ∷ v) e = absurd (one_is_empty b v (sym e))
tells (b ∷ u) [] e = absurd (one_is_empty b u e)
tells (false ∷ u) (false ∷ v) e =
    let s = entrywise e in ap (λ t. false ∷ t) (tells u v (four (whole u) (whole v) (omega arith) (omega arith) (omega arith) (omega arith)))
tells (true ∷ u) (true ∷ v) e =
    let s = entrywise e in ap (λ t. true ∷ t) (tells u v (four (whole u) (whole v) (omega arith) (omega arith) (omega arith) (omega arith)))
tells (false ∷ u) (true ∷ v) e = let s = entrywise e in let p = positive u in let q = positive v in absurd (omega arith)
tells (true ∷ u) (false ∷ v) e = let s = entrywise e in let p = positive u in let q = positive v in absurd (omega arith)

pub record Below (f g : ℕ) (m : Entries) : Type 0 where
  pub a_low : m.a ≤ f
  pub b_low : m.b ≤ f
  pub c_low : m.c ≤ f
  pub d_low : m.d ≤ f
  pub left_low : m.a + m.c ≤ g
  pub right_low : m.b + m.d ≤ g

-- no entry of a product of n bits is above F(n + 1)
pub bounded : (w : List Bool) → Below (fib (suc (length w))) (fib (suc (suc (length w)))) (whole w)
bounded [] = omega arith
bounded (false ∷ w) = let h = bounded w in omega arith
bounded (true ∷ w) = let h = bounded w in omega arith

fib_up : (n : ℕ) → fib n ≤ fib (suc n)
fib_up zero = omega arith
fib_up (suc n) = omega arith

pub fib_mono : (m n : ℕ) → m ≤ n → fib m ≤ fib n
fib_mono m n h = le_ind (λ k. fib m ≤ fib k) (le_refl (fib m)) (λ k _ s. le_trans s (fib_up k)) n h

run : ℕ → ℕ → ℕ → ℕ
run zero x y = x
run (suc n) x y = run n y (y + x)

run_fib : (n k : ℕ) → run n (fib k) (fib (suc k)) ≡ fib (n + k)
unfolding run
run_fib zero k = ap fib (sym (zero-add k))
run_fib (suc n) k = run_fib n (suc k) ∙ ap fib (let t : n + suc k ≡ suc n + k = omega arith in t)

pub fib_46 : fib 46 ≡ 1836311903
unfolding run
fib_46 = sym (run_fib 46 0)

-- modulo the prime, the product is the whole product's remainder
entry_mod : (x y u v p q : ℕ) → p ≡ u % prime → q ≡ v % prime → dot prime x y p q ≡ (x * u + y * v) % prime
entry_mod x y u v p q e f =
    ap (λ n. (x * n + y * q) % prime) e ∙ ap (λ n. (x * (u % prime) + y * n) % prime) f
    ∙ same_add prime (x * (u % prime)) (x * u) (y * (v % prime)) (y * v)
    (same_mul prime x x (u % prime) u refl (mod-mod u prime)) (same_mul prime y y (v % prime) v refl (mod-mod v prime))

abbrev pub rest : Entries → Entries
rest m = matrix (m.a % prime) (m.b % prime) (m.c % prime) (m.d % prime)

pub product_rest : (w : List Bool) → Entrywise (product_of w) (rest (whole w))
product_rest [] = record { at_a = refl; at_b = refl; at_c = refl; at_d = refl }
product_rest (false ∷ w) =
    let h = product_rest w in
    let q = whole w in
    record {
      at_a = entry_mod 1 1 q.a q.c _ _ h.at_a h.at_c;
      at_b = entry_mod 1 1 q.b q.d _ _ h.at_b h.at_d;
      at_c = entry_mod 0 1 q.a q.c _ _ h.at_a h.at_c;
      at_d = entry_mod 0 1 q.b q.d _ _ h.at_b h.at_d;
    }
product_rest (true ∷ w) =
    let h = product_rest w in
    let q = whole w in
    record {
      at_a = entry_mod 1 0 q.a q.c _ _ h.at_a h.at_c;
      at_b = entry_mod 1 0 q.b q.d _ _ h.at_b h.at_d;
      at_c = entry_mod 1 1 q.a q.c _ _ h.at_a h.at_c;
      at_d = entry_mod 1 1 q.b q.d _ _ h.at_b h.at_d;
    }

-- of at most 45 bits, it is the whole product
pub product_whole : (w : List Bool) → length w ≤ 45 → product_of w ≡ whole w
product_whole w h =
    let low = bounded w in
    let top : fib (suc (length w)) < prime = omega (arith, fib_mono (suc (length w)) 46 (omega arith), fib_46) in
    let r = product_rest w in
    four (product_of w) (whole w)
    (r.at_a ∙ mod-eq_of_lt (omega arith)) (r.at_b ∙ mod-eq_of_lt (omega arith))
    (r.at_c ∙ mod-eq_of_lt (omega arith)) (r.at_d ∙ mod-eq_of_lt (omega arith))

pub within : Bounded
within w = let b = bounded w in let t : fib (length w + 1) ≡ fib (suc (length w)) = ap fib (add-one (length w)) in omega arith

-- what n bits that alternate give, the first of them 0: of an even number the left column is F(n + 1) over F(n), of an odd
-- number the right one
pub data Column (n : ℕ) (m : Entries) : Type 0 where
  on_left : m.a ≡ fib (suc n) → m.c ≡ fib n → Column n m
  on_right : m.b ≡ fib (suc n) → m.d ≡ fib n → Column n m

alternating : ℕ → List Bool
alternating zero = []
alternating (suc zero) = false ∷ []
alternating (suc (suc n)) = false ∷ (true ∷ alternating n)

alternating_long : (n : ℕ) → length (alternating n) ≡ n
unfolding alternating
alternating_long zero = refl
alternating_long (suc zero) = refl
alternating_long (suc (suc n)) = let h = alternating_long n in omega arith

two_more : (n : ℕ) (m : Entries) → Column n m → Column (suc (suc n)) (whole_times (bit false) (whole_times (bit true) m))
two_more n m (on_left a c) = on_left (omega arith) (omega arith)
two_more n m (on_right b d) = on_right (omega arith) (omega arith)

column : (n : ℕ) → Column n (whole (alternating n))
unfolding alternating
column zero = on_left refl refl
column (suc zero) = on_right refl refl
column (suc (suc n)) = two_more n (whole (alternating n)) (column n)

pub attained : Attained
attained n = (alternating n, (alternating_long n, by (whole (alternating n)) (column n)))
  where
    by : (m : Entries) → Column n m → (m.a ≡ fib (n + 1)) ⊎ (m.b ≡ fib (n + 1))
    by m (on_left a c) = inl (a ∙ ap fib (sym (add-one n)))
    by m (on_right b d) = inr (b ∙ ap fib (sym (add-one n)))

-- the whole product of two strings, one behind the other
pub whole_append : (u v : List Bool) → whole (u ++ v) ≡ whole_times (whole u) (whole v)
whole_append [] v = four (whole v) (whole_times identity (whole v)) (omega arith) (omega arith) (omega arith) (omega arith)
whole_append (false ∷ u) v =
    let s = entrywise (whole_append u v) in
    let x = whole u in
    let y = whole v in
    four (whole (false ∷ (u ++ v))) (whole_times (whole (false ∷ u)) y) (omega arith) (omega arith) (omega arith) (omega arith)
whole_append (true ∷ u) v =
    let s = entrywise (whole_append u v) in
    let x = whole u in
    let y = whole v in
    four (whole (true ∷ (u ++ v))) (whole_times (whole (true ∷ u)) y) (omega arith) (omega arith) (omega arith) (omega arith)

-- over few bits, the product modulo p is the one over whole numbers, and stays below p
pub record Few (x y : Entries) : Type 0 where
  pub product : times x y ≡ whole_times x y
  pub a_few : (whole_times x y).a < prime
  pub b_few : (whole_times x y).b < prime
  pub c_few : (whole_times x y).c < prime
  pub d_few : (whole_times x y).d < prime

pub few : (x y : Entries) → FewBits x y → Few x y
few x y h =
    let u = h.front in
    let v = h.back in
    let fx : x ≡ whole u = h.x_is ∙ product_whole u (omega (arith, h.few)) in
    let fy : y ≡ whole v = h.y_is ∙ product_whole v (omega (arith, h.few)) in
    let len = length-append u v in
    let low = bounded (u ++ v) in
    let top : fib (suc (length (u ++ v))) < prime = omega (arith, fib_mono (suc (length (u ++ v))) 46 (omega (arith, len, h.few)), fib_46) in
    let s = entrywise (whole_append u v ∙ ap (λ z. whole_times z (whole v)) (sym fx) ∙ ap (whole_times x) (sym fy)) in
    let fa : (whole_times x y).a < prime = omega (arith, s.at_a, low.a_low, top) in
    let fb : (whole_times x y).b < prime = omega (arith, s.at_b, low.b_low, top) in
    let fc : (whole_times x y).c < prime = omega (arith, s.at_c, low.c_low, top) in
    let fd : (whole_times x y).d < prime = omega (arith, s.at_d, low.d_low, top) in
    record {
      product = four (times x y) (whole_times x y) (mod-eq_of_lt fa) (mod-eq_of_lt fb) (mod-eq_of_lt fc) (mod-eq_of_lt fd);
      a_few = fa;
      b_few = fb;
      c_few = fc;
      d_few = fd;
    }
