-- A lawful tree is low for its text.
use Rattle.std.proofs.Common.{◌≡◌, ℕ, zero, suc, ◌+◌, ◌-◌, ◌^◌, ◌<◌, ◌≤◌, max, true, [], ◌∷◌, refl, ap, ◌∙◌, inl, inr, arith}
use Rattle.std.proofs.lemmas.Bool.{cases_lt}
use Rattle.residue.specs.Fibonacci.{fib}
use Rattle.rope.specs.Tree.{Tree, leaf, node, size, height, lawful, Fewest}
use Rattle.rope.proofs.Readings.{size_node, leaf_facts, node_facts, lawful_node}

fib_step : (n : ℕ) → fib n ≤ fib (suc n)
fib_step zero = omega arith
fib_step (suc n) = omega arith

fib_more : (n k : ℕ) → fib n ≤ fib (n + k)
fib_more n zero = let e : n + 0 ≡ n = omega arith in omega (arith, ap fib e)
fib_more n (suc k) =
    let e : n + suc k ≡ suc (n + k) = omega arith in
    omega (arith, ap fib e, fib_step (n + k), fib_more n k)

pub fib_mono : (i j : ℕ) → i ≤ j → fib i ≤ fib j
fib_mono i j h = let e : i + (j - i) ≡ j = omega arith in omega (arith, ap fib e, fib_more i (j - i))

at_least : (t : Tree) → lawful t ≡ true → fib (suc (suc (height t))) ≤ size t
at_least (leaf bs) h = omega (arith, (leaf_facts bs h).some)
at_least (node l r) h =
    let f = node_facts l r h in
    let il = at_least l f.left in
    let ir = at_least r f.right in
    let z = size_node l r in
    elim (cases_lt (height l) (height r)) [
      | inl k ↦
          let e : max (height l) (height r) + 1 ≡ suc (height r) = omega arith in
          omega (arith, ap (λ n. fib (suc (suc n))) e, fib_mono (suc (height r)) (suc (suc (height l))) (omega (arith, f.right_near)))
      | inr k ↦
          let e : max (height l) (height r) + 1 ≡ suc (height l) = omega arith in
          omega (arith, ap (λ n. fib (suc (suc n))) e, fib_mono (suc (height l)) (suc (suc (height r))) (omega (arith, f.left_near)))
    ]

at_least_fib : (t : Tree) → lawful t ≡ true → fib (height t + 2) ≤ size t
at_least_fib t h = let e : height t + 2 ≡ suc (suc (height t)) = omega arith in omega (arith, ap fib e, at_least t h)

-- the thinnest tree of each height
abbrev thinnest : ℕ → Tree
thinnest zero = leaf (0 ∷ [])
thinnest (suc zero) = node (leaf (0 ∷ [])) (leaf (0 ∷ []))
thinnest (suc (suc h)) = node (thinnest (suc h)) (thinnest h)

record Thin (h : ℕ) (t : Tree) : Type 0 where
  fair : lawful t ≡ true
  high : height t ≡ h
  long : size t ≡ fib (suc (suc h))

thin : (h : ℕ) → Thin h (thinnest h)
thin zero = record { fair = refl; high = refl; long = refl }
thin (suc zero) = record { fair = refl; high = refl; long = refl }
thin (suc (suc h)) =
    let u : Tree = thinnest (suc h) in
    let v : Tree = thinnest h in
    let p : Thin (suc h) u = thin (suc h) in
    let q : Thin h v = thin h in
    record {
      fair = lawful_node u v (record { left = p.fair; right = q.fair; left_near = omega (arith, p.high, q.high); right_near = omega (arith, p.high, q.high) });
      high = omega (arith, p.high, q.high);
      long = size_node u v ∙ omega (arith, p.long, q.long);
    }

pub fewest : Fewest
fewest = (
  at_least_fib,
  λ h. let e : suc (suc h) ≡ h + 2 = omega arith in (thinnest h, ((thin h).fair, ((thin h).high, (thin h).long ∙ ap fib e))),
)

height_below : (n k : ℕ) → k < fib (n + 2) → (t : Tree) → lawful t ≡ true → size t ≤ k → height t < n
height_below n k above t h short =
    elim (cases_lt (height t) n) [
      | inl l ↦ l
      | inr l ↦ absurd (omega (arith, fib_mono (n + 2) (height t + 2) (omega arith), at_least_fib t h))
    ]

pub height_28 : (t : Tree) → lawful t ≡ true → size t ≤ 1048576 → height t ≤ 28
height_28 t h short = let l : height t < 29 = height_below 29 1048576 (omega arith) t h short in omega arith

-- a length of 32 bits leaves a height of 8 bits
pub height_small : (t : Tree) → lawful t ≡ true → size t < 2 ^ 32 → height t < 64
height_small t h short = height_below 64 (2 ^ 32) (omega arith) t h (omega arith)
