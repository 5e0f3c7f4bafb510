-- The steps of a splice that goes down to a child.
use Rattle.std.proofs.Common.{◌≡◌, ℕ, ◌+◌, ◌-◌, ◌^◌, ◌<◌, ◌≤◌, max, List, ◌++◌, length, take, drop, sym, ap, ◌∙◌, append_assoc, arith, length-append, length-drop, Some}
use lib.Seq.{take-append-le, take-append-add, drop-append-add}
use Rattle.std.proofs.lemmas.List.{length-take, drop-append-le}
use Rattle.std.proofs.lemmas.Bool.{ltb-true, lt-ltb}
use Rattle.rope.specs.Tree.{Tree, text, size, height}
use Rattle.rope.specs.Arena.{Splits, Root}
use Rattle.rope.specs.Memory.{arena_of, tree_of, Free}
use Rattle.rope.specs.declared.store.Store.{Store}
use Rattle.rope.proofs.Keeping.{takes_trans, takes_within, free_after}
use Rattle.rope.proofs.Readings.{splits_size, splits_high}
use Rattle.rope.specs.Edits.{spliced}
use Rattle.rope_join.specs.Joins.{join_cost}
use Rattle.rope_cut.specs.Parts.{Rooted, Makes, Spliceable, text_in, height_in, higher, join_cost_in, splice_cost, edit_need}
use Rattle.rope_cut.proofs.Roots.{Stays, root_stays}

-- the heights of a tree, of the child that changes, of the other child and of the text that is put in
pub record Levels (h c k o : ℕ) : Type 0 where
  pub high : h ≡ max c k + 1
  pub child_near : c ≤ k + 1
  pub sibling_near : k ≤ c + 1
  pub low : o ≤ c

-- the child becomes x high, and its join with the other child y
module _ {h c k o : ℕ} (l : Levels h c k o) (x : ℕ) (low : x ≤ max c o + 2) where
  pub resplice_room : splice_cost (max c o) x + join_cost x k ≤ edit_need (max h o)
  resplice_room = omega arith

  pub resplice_cost : (y : ℕ) → max x k ≤ y → splice_cost (max c o) x + join_cost x k ≤ splice_cost (max h o) y
  resplice_cost y least = omega arith

  pub resplice_low : (y : ℕ) → y ≤ max x k + 1 → y ≤ max h o + 2
  resplice_low y most = omega arith

-- a part within the left text, and one within the right text
splice_left : (a b : ℕ) (xs ys zs : List ℕ) → a ≤ b → b ≤ length xs
    → spliced xs a b zs ++ ys ≡ spliced (xs ++ ys) a b zs
splice_left a b xs ys zs ordered within =
    let before = take-append-le a xs ys (omega arith) in
    let behind = drop-append-le b xs ys within in
    simp append_assoc (cc)

splice_right : (a b n : ℕ) (xs ys zs : List ℕ) → n ≡ length xs → n ≤ a → a ≤ b
    → xs ++ spliced ys (a - n) (b - n) zs ≡ spliced (xs ++ ys) a b zs
splice_right a b n xs ys zs long past ordered =
    let from : length xs + (a - n) ≡ a = omega arith in
    let to : length xs + (b - n) ≡ b = omega arith in
    let before = take-append-add xs ys (a - n) in
    let behind = drop-append-add xs ys (b - n) in
    let grouped = append_assoc xs (take (a - n) ys) (zs ++ drop (b - n) ys) in
    cc

-- the length of a spliced text
pub length_spliced : (xs zs : List ℕ) (a b : ℕ) → a ≤ b → b ≤ length xs → length (spliced xs a b zs) ≡ length xs - (b - a) + length zs
length_spliced xs zs a b ordered within = simp (length-append, length-take, length-drop) (omega arith)

module _ {V R : Type 0} {kind : _} {s : Store V R kind} {i l r a b : ℕ} {q : Root} (h : Spliceable s (Some i) a b q) (e : Splits (arena_of s) i l r) where
  below : i < s.records.used
  below = ltb-true i s.records.used h.rooted.0.root

  -- where the left child changes
  module _ (within : b ≤ size (tree_of s l)) (low : height_in s q ≤ height (tree_of s l)) {s1 : Store V R kind} {x : Root}
      (y : Makes s s1 x (spliced (text_in s (Some l)) a b (text_in s q)) (splice_cost (higher s (Some l) q) (height_in s1 x)) (higher s (Some l) q + 2)) where
    right_kept : Stays s s1 (Some r)
    right_kept = root_stays y.takes.keeps (Some r) (lt-ltb r s.records.used (omega (arith, below, e.right)))

    left_size : length (text_in s1 x) ≡ size (tree_of s l) - (b - a) + length (text_in s q)
    left_size = ap length y.text_is ∙ length_spliced (text (tree_of s l)) (text_in s q) a b h.part.0 within

    left_levels : Levels (height (tree_of s i)) (height (tree_of s l)) (height_in s1 (Some r)) (height_in s q)
    left_levels =
        let same = right_kept.high in
        record { high = omega (arith, splits_high e); child_near = omega (arith, e.left_near); sibling_near = omega (arith, e.right_near); low = low }

    pub left_rooted : Rooted s1 x × Rooted s1 (Some r)
    left_rooted = (
      record { root = y.root; short = omega (arith, left_size, splits_size e, h.short, h.part.0) },
      record { root = right_kept.root; short = omega (arith, ap length right_kept.text_is, splits_size e, h.rooted.0.short) },
    )

    pub left_short : length (text_in s1 x) + length (text_in s1 (Some r)) < 2 ^ 32
    left_short = omega (arith, left_size, ap length right_kept.text_is, splits_size e, h.short, h.part.0)

    pub left_free : Free s1 (join_cost_in s1 x (Some r))
    left_free = free_after (join_cost_in s1 x (Some r)) (edit_need (higher s (Some i) q)) (resplice_room left_levels (height_in s1 x) y.low) h.free y.takes

    pub left_done : {s2 : Store V R kind} {z : Root} → Makes s1 s2 z (text_in s1 x ++ text_in s1 (Some r)) (join_cost_in s1 x (Some r)) (higher s1 x (Some r) + 1)
        → higher s1 x (Some r) ≤ height_in s2 z
        → Makes s s2 z (spliced (text_in s (Some i)) a b (text_in s q)) (splice_cost (higher s (Some i) q) (height_in s2 z)) (higher s (Some i) q + 2)
    left_done {s2} {z} j least =
        let tl = text (tree_of s l) in
        let tr = text (tree_of s r) in
        let tq = text_in s q in
        record {
          takes = takes_within _ (resplice_cost left_levels (height_in s1 x) y.low (height_in s2 z) least) (takes_trans y.takes j.takes);
          root = j.root;
          text_is = j.text_is ∙ ap (λ t. t ++ text_in s1 (Some r)) y.text_is ∙ ap (λ t. spliced tl a b tq ++ t) right_kept.text_is
              ∙ splice_left a b tl tr tq h.part.0 within ∙ ap (λ (t : Tree). spliced (text t) a b tq) (sym e.tree);
          low = resplice_low left_levels (height_in s1 x) y.low (height_in s2 z) j.low;
        }

  -- where the right child changes
  module _ (n : ℕ) (long : n ≡ size (tree_of s l)) (past : n ≤ a) (low : height_in s q ≤ height (tree_of s r)) {s1 : Store V R kind} {x : Root}
      (y : Makes s s1 x (spliced (text_in s (Some r)) (a - n) (b - n) (text_in s q)) (splice_cost (higher s (Some r) q) (height_in s1 x)) (higher s (Some r) q + 2)) where
    left_kept : Stays s s1 (Some l)
    left_kept = root_stays y.takes.keeps (Some l) (lt-ltb l s.records.used (omega (arith, below, e.left)))

    right_size : length (text_in s1 x) ≡ size (tree_of s r) - (b - n - (a - n)) + length (text_in s q)
    right_size =
        ap length y.text_is ∙ length_spliced (text (tree_of s r)) (text_in s q) (a - n) (b - n) (omega (arith, h.part.0)) (omega (arith, h.part.1, splits_size e))

    right_levels : Levels (height (tree_of s i)) (height (tree_of s r)) (height_in s1 (Some l)) (height_in s q)
    right_levels =
        let same = left_kept.high in
        record { high = omega (arith, splits_high e); child_near = omega (arith, e.right_near); sibling_near = omega (arith, e.left_near); low = low }

    pub right_rooted : Rooted s1 (Some l) × Rooted s1 x
    right_rooted = (
      record { root = left_kept.root; short = omega (arith, ap length left_kept.text_is, splits_size e, h.rooted.0.short) },
      record { root = y.root; short = omega (arith, right_size, splits_size e, h.short, h.part.0) },
    )

    pub right_short : length (text_in s1 (Some l)) + length (text_in s1 x) < 2 ^ 32
    right_short = omega (arith, right_size, ap length left_kept.text_is, splits_size e, h.short, h.part.0)

    swapped : join_cost_in s1 x (Some l) ≡ join_cost_in s1 (Some l) x
    swapped = omega arith

    pub right_free : Free s1 (join_cost_in s1 (Some l) x)
    right_free =
        free_after (join_cost_in s1 (Some l) x) (edit_need (higher s (Some i) q)) (omega (arith, swapped, resplice_room right_levels (height_in s1 x) y.low)) h.free y.takes

    pub right_done : {s2 : Store V R kind} {z : Root} → Makes s1 s2 z (text_in s1 (Some l) ++ text_in s1 x) (join_cost_in s1 (Some l) x) (higher s1 (Some l) x + 1)
        → higher s1 (Some l) x ≤ height_in s2 z
        → Makes s s2 z (spliced (text_in s (Some i)) a b (text_in s q)) (splice_cost (higher s (Some i) q) (height_in s2 z)) (higher s (Some i) q + 2)
    right_done {s2} {z} j least =
        let tl = text (tree_of s l) in
        let tr = text (tree_of s r) in
        let tq = text_in s q in
        record {
          takes = takes_within _ (omega (arith, swapped, resplice_cost right_levels (height_in s1 x) y.low (height_in s2 z) (omega (arith, least)))) (takes_trans y.takes j.takes);
          root = j.root;
          text_is = j.text_is ∙ ap (λ t. t ++ text_in s1 x) left_kept.text_is ∙ ap (λ t. tl ++ t) y.text_is
              ∙ splice_right a b n tl tr tq long past h.part.0 ∙ ap (λ (t : Tree). spliced (text t) a b tq) (sym e.tree);
          low = resplice_low right_levels (height_in s1 x) y.low (height_in s2 z) (omega (arith, j.low));
        }
