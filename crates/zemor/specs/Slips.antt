-- Two texts with one slip between them, and what their fingerprints tell.
use Rattle.std.specs.Prelude.{◌≡◌, ℕ, ◌≤◌, Bool, true, List, ◌++◌, length}
use Rattle.monoid.specs.Monoid.{fold_of, all_bytes}
use Rattle.zemor.specs.Bits.{text_bits}
use Rattle.zemor.specs.Values.{sl2}

-- a slip of the hand, such as a digit mistyped: up to it both texts have the bits u, and from it on the bits v; there one
-- has w and the other x, neither of more than 45 bits. Where w is empty something was only put in, where x is, left out.
pub record Slip (one other : List ℕ) : Type 0 where
  pub u : List Bool
  pub w : List Bool
  pub x : List Bool
  pub v : List Bool
  pub w_short : length w ≤ 45
  pub x_short : length x ≤ 45
  pub one_bits : text_bits one ≡ u ++ (w ++ v)
  pub other_bits : text_bits other ≡ u ++ (x ++ v)

-- each follows from the other
abbrev pub Exactly : Type 0 → Type 0 → Type 0
Exactly A B = (A → B) × (B → A)

-- slips always show: the fingerprints are equal exactly when the texts are
abbrev pub SlipsShow : Type 0
SlipsShow =
    (one other : List ℕ) → all_bytes one ≡ true → all_bytes other ≡ true → Slip one other
    → Exactly (fold_of sl2 one ≡ fold_of sl2 other) (one ≡ other)
