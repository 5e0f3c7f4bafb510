-- How peeling goes: what was peeled off, and what is left.
use Rattle.std.proofs.Common.{◌≡◌, ℕ, suc, ◌+◌, ◌*◌, ◌<◌, ◌≤◌, Bool, true, false, not, ◌&&◌, eqb, List, [], ◌∷◌, ◌++◌, map, length, Some, None, Option, sym, refl, ap, ◌∙◌, append_assoc, add-one, arith, length-append}
use Rattle.std.proofs.lemmas.Bool.Decides.{nat_tests as by_tests}
use Rattle.std.proofs.lemmas.List.{length-map, map-append}
use Rattle.std.specs.Int.{from_bool}
use Rattle.zemor.specs.Matrix.{identity, bit}
use Rattle.zemor.specs.Bits.{digits_in, bits_in, is_one}
use Rattle.zemor.specs.Values.{row}
use Rattle.zemor.specs.Whole.{whole, whole_times}
use Rattle.zemor.specs.Peeling.{First, Peels, Tells, spelled}
use Rattle.zemor.specs.declared.matrix.Entries.{Entries}
use Rattle.zemor.specs.declared.matrix.Sl2.{Sl2}
use Rattle.zemor.specs.declared.peel.Bits.{Bits}
use Rattle.zemor.specs.Laws.{four}
use Rattle.zemor.proofs.Digits.{digits_push, length_digits}
use Rattle.zemor.proofs.Products.{tells, product_whole}

abbrev pub push : ℕ → Bool → ℕ
push x b = 2 * x + from_bool b

pub length_bits : (x n : ℕ) → length (bits_in x n) ≡ n
length_bits x n = length-map (digits_in 2 x n) is_one ∙ length_digits 2 (omega arith) x n

bits_push_digit : (x d n : ℕ) → d < 2 → bits_in (2 * x + d) (suc n) ≡ bits_in x n ++ (is_one d ∷ [])
bits_push_digit x d n h =
    ap (λ y. bits_in y (suc n)) (let t : 2 * x + d ≡ x * 2 + d = omega arith in t)
    ∙ ap (map is_one) (digits_push 2 (omega arith) x d n h) ∙ map-append is_one (digits_in 2 x n) (d ∷ [])

pub bits_push : (x n : ℕ) (b : Bool) → bits_in (push x b) (n + 1) ≡ bits_in x n ++ (b ∷ [])
bits_push x n true = ap (bits_in (push x true)) (add-one n) ∙ bits_push_digit x 1 n (omega arith)
bits_push x n false = ap (bits_in (push x false)) (add-one n) ∙ bits_push_digit x 0 n (omega arith)

-- the product of bits, times a matrix
abbrev pub from : List Bool → Entries → Entries
from [] m = m
from (b ∷ u) m = whole_times (bit b) (from u m)

from_one : (u : List Bool) → from u identity ≡ whole u
from_one [] = refl
from_one (b ∷ u) = ap (whole_times (bit b)) (from_one u)

from_push : (u : List Bool) (b : Bool) (m : Entries) → from (u ++ (b ∷ [])) m ≡ from u (whole_times (bit b) m)
from_push [] b m = refl
from_push (c ∷ u) b m = ap (whole_times (bit c)) (from_push u b m)

-- the test of a matrix against the identity
abbrev is_identity : Entries → Bool
is_identity m = eqb m.a 1 && (eqb m.b 0 && (eqb m.c 0 && eqb m.d 1))

pub is_it : (m : Entries) → not (is_identity m) ≡ false → m ≡ identity
is_it m h = four m identity (grind (arith, by_tests)) (grind (arith, by_tests)) (grind (arith, by_tests)) (grind (arith, by_tests))

pub is_other : (m : Entries) → not (is_identity m) ≡ true → m ≡ identity → ⊥
is_other m h e = let same : not (is_identity m) ≡ false = ap (λ k. not (is_identity k)) e in cc

-- what is left of the string w after the bits u
pub record Rest (u : List Bool) (left : Entries) (w : List Bool) : Type 0 where
  pub tail : List Bool
  pub split : w ≡ u ++ tail
  pub made : whole tail ≡ left

-- the bits u were peeled off e, and left is left
pub record Peeled (e : Entries) (u : List Bool) (left : Entries) : Type 0 where
  pub whole_is : from u left ≡ e
  pub only : (w : List Bool) → whole w ≡ e → Rest u left w

module _ (e : Entries) (u : List Bool) (left : Entries) (p : Peeled e u left) where
  next_rest : (b : Bool) (m : Entries) → First left (Some (b, m)) → (left ≡ identity → ⊥) → (w t : List Bool)
      → w ≡ u ++ t → whole t ≡ left → Rest (u ++ (b ∷ [])) m w
  next_rest b m f more w [] split made = absurd (more (sym made))
  next_rest b m f more w (c ∷ t) split made =
      let g = f.1 c t made in
      record {
        tail = t;
        split = split ∙ ap (λ d. u ++ (d ∷ t)) g.0 ∙ sym (append_assoc u (b ∷ []) t);
        made = g.1;
      }

  pub peeled_more : (b : Bool) (m : Entries) → First left (Some (b, m)) → (left ≡ identity → ⊥) → Peeled e (u ++ (b ∷ [])) m
  peeled_more b m f more = record {
    whole_is = from_push u b m ∙ ap (from u) f.0 ∙ p.whole_is;
    only = λ w h. let r = p.only w h in next_rest b m f more w r.tail r.split r.made;
  }

  stuck_at : (left ≡ identity → ⊥) → First left None → (t : List Bool) → whole t ≡ left → ⊥
  stuck_at more f [] made = more (sym made)
  stuck_at more f (b ∷ t) made = f b t made

  pub peeled_stuck : (left ≡ identity → ⊥) → First left None → Peels e None
  peeled_stuck more f w h k = let r = p.only w k in stuck_at more f r.tail r.made

  ended : (left ≡ identity → ⊥) → (t : List Bool) → whole t ≡ left → length t ≡ 0 → ⊥
  ended more [] made h = more (sym made)
  ended more (b ∷ t) made h = omega arith

  pub peeled_end : (left ≡ identity → ⊥) → length u ≡ 45 → Peels e None
  peeled_end more full w h k =
      let r = p.only w k in
      let long = ap length r.split ∙ length-append u r.tail in
      ended more r.tail r.made (omega arith)

pub peeled_all : (e : Entries) (s : Bits) (left : Entries) → Peeled e (spelled s) left → left ≡ identity → Peels e (Some s)
peeled_all e s left p done =
    let all : whole (spelled s) ≡ e = sym (from_one (spelled s)) ∙ ap (from (spelled s)) (sym done) ∙ p.whole_is in
    (all, λ w k. tells w (spelled s) (k ∙ sym all))

pub told : (x : Sl2) (r : Option Bits) → Peels (row x) r → Tells x r
told x (Some s) p =
    let fits : length (spelled s) ≤ 45 = omega (arith, length_bits s.word s.len, s.short) in
    (product_whole (spelled s) fits ∙ p.0, λ w h k. p.1 w (sym (product_whole w h) ∙ k))
told x None p = λ w h k. p w h (sym (product_whole w h) ∙ k)
