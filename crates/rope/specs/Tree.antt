-- The trees that records stand for.
use Rattle.std.specs.Prelude.{◌≡◌, ℕ, ◌+◌, ◌≤◌, max, Bool, true, ◌&&◌, List, [], ◌∷◌, ◌++◌, length, nat_le, nat_lt}
use Rattle.residue.specs.Fibonacci.{fib}
use Rattle.monoid.specs.Monoid.{all_bytes}

pub data Tree : Type 0 where
  leaf : List ℕ → Tree
  node : Tree → Tree → Tree

-- the bytes of the leaves, from left to right
abbrev pub text : Tree → List ℕ
text (leaf bs) = bs
text (node l r) = text l ++ text r

abbrev pub size : Tree → ℕ
size t = length (text t)

-- a leaf has height 0, an inner one is one higher than its higher child
abbrev pub height : Tree → ℕ
height (leaf bs) = 0
height (node l r) = max (height l) (height r) + 1

-- a leaf has 1 to 64 bytes, each below 256; an inner one has lawful children, whose heights differ by at most one
abbrev pub lawful : Tree → Bool
lawful (leaf bs) = nat_lt 0 (length bs) && nat_le (length bs) 64 && all_bytes bs
lawful (node l r) = lawful l && lawful r && nat_le (height l) (height r + 1) && nat_le (height r) (height l + 1)

abbrev pub all_lawful : List Tree → Bool
all_lawful [] = true
all_lawful (t ∷ ts) = lawful t && all_lawful ts

-- the fewest bytes of a lawful tree of height h are fib (h + 2): none has fewer, and some has as many
abbrev pub Fewest : Type 0
Fewest =
    ((t : Tree) → lawful t ≡ true → fib (height t + 2) ≤ size t)
    × ((h : ℕ) → (t : Tree) × ((lawful t ≡ true) × ((height t ≡ h) × (size t ≡ fib (h + 2)))))
