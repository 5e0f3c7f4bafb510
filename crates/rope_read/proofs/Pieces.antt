-- The part a to b of a text that is in two pieces, and of one that is a part itself.
use Rattle.std.proofs.Common.{◌≡◌, ℕ, ◌+◌, ◌-◌, ◌<◌, ◌≤◌, List, [], ◌++◌, length, take, drop, sym, ap, ◌∙◌, append_assoc, append-nil, arith, length-drop}
use borrow.Rule.Slice.PartMut.{put_mid}
use lib.Seq.{drop-append-add, take-append-add}
use Rattle.std.proofs.lemmas.List.{drop-append-le, take_all, drop-drop, take-take, drop_at, take_at, take_rest, drop_all}
use Rattle.std.proofs.lemmas.Slice.{between_is}
use Rattle.std.specs.List.{between}
use Rattle.rope.specs.Tree.{Tree, text, size}
use Rattle.rope.specs.Arena.{Arena, Known, Splits, tree_at, part, origin_text}
use Rattle.rope.specs.declared.record.Record.{Record}
use Rattle.rope.specs.declared.record.Shape.TheVariants.{Leaf}
use Rattle.rope.specs.declared.record.Origin.{Origin}
use Rattle.rope.proofs.Readings.{leaf_of}

module _ (xs ys : List ℕ) (a b : ℕ) where
  in_right : (n : ℕ) → n ≡ length xs → n ≤ a → between a b (xs ++ ys) ≡ between (a - n) (b - n) ys
  in_right n e h =
      let at : a ≡ length xs + (a - n) = omega arith in
      let long : b - a ≡ b - n - (a - n) = omega arith in
      ap (λ i. take (b - a) (drop i (xs ++ ys))) at ∙ ap (take (b - a)) (drop-append-add xs ys (a - n)) ∙ ap (λ i. take i (drop (a - n) ys)) long

  in_both : (n : ℕ) → n ≡ length xs → a < n → n < b → between a b (xs ++ ys) ≡ between a n xs ++ between 0 (b - n) ys
  in_both n e h k =
      let long : b - a ≡ length (drop a xs) + (b - n) = simp length-drop (omega arith) in
      let whole : take (n - a) (drop a xs) ≡ drop a xs = take_all (n - a) (drop a xs) (simp length-drop (omega arith)) in
      let rest : b - n ≡ b - n - 0 = omega arith in
      ap (take (b - a)) (drop-append-le a xs ys (omega arith)) ∙ ap (λ i. take i (drop a xs ++ ys)) long ∙ take-append-add (drop a xs) ys (b - n)
      ∙ ap (λ zs. zs ++ take (b - n) ys) (sym whole) ∙ ap (λ i. take (n - a) (drop a xs) ++ take i ys) rest

-- the part of an inner record's text, by its children
module _ {R : Type 0} {v : Arena R} {i l r : ℕ} (e : Splits v i l r) (a b n : ℕ) (long : n ≡ size (tree_at v l)) where
  whole : between a b (text (tree_at v l) ++ text (tree_at v r)) ≡ between a b (text (tree_at v i))
  whole = ap (λ (t : Tree). between a b (text t)) (sym e.tree)

  pub piece_right : n ≤ a → between (a - n) (b - n) (text (tree_at v r)) ≡ between a b (text (tree_at v i))
  piece_right h = sym (in_right (text (tree_at v l)) (text (tree_at v r)) a b n long h) ∙ whole

  pub piece_both : a < n → n < b → between a n (text (tree_at v l)) ++ between 0 (b - n) (text (tree_at v r)) ≡ between a b (text (tree_at v i))
  piece_both h k = sym (in_both (text (tree_at v l)) (text (tree_at v r)) a b n long h k) ∙ whole

-- the part of a leaf's text is a part of its origin
pub piece_part : {R Row : Type 0} {v : Arena R} {i start : ℕ} {x : Record R} {origin : Origin} → Known v i x Row → x.shape ≡ Leaf origin start
    → (a b : ℕ) → b ≤ size (tree_at v i) → part v origin (start + a) (b - a) ≡ between a b (text (tree_at v i))
piece_part {v} {start} {x} {origin} d is a b within =
    let from = drop start (origin_text v origin) in
    ap (take (b - a)) (sym (drop-drop a start (origin_text v origin))) ∙ between_is from a b
    ∙ ap (drop a) (sym (take-take b x.length from (omega (arith, d.long)))) ∙ sym (between_is (take x.length from) a b)
    ∙ ap (λ (t : Tree). between a b (text t)) (sym (leaf_of d is).1)

-- a copy of two pieces, the second of them behind the first
pub copied_both : (us vs out out1 out2 : List ℕ) (k n c : ℕ) → length us ≡ k → k + n ≡ c → k ≤ length out
    → out1 ≡ us ++ drop k out → out2 ≡ vs ++ drop n (take (length out1 - k) (drop k out1)) → put_mid k (length out1 - k) out1 out2 ≡ (us ++ vs) ++ drop c out
copied_both us vs out out1 out2 k n c long sum room e1 e2 =
    let rest : drop k out1 ≡ drop k out = ap (drop k) e1 ∙ drop_at us (drop k out) k long in
    let front : take k out1 ≡ us = ap (take k) e1 ∙ take_at us (drop k out) k long in
    let part : take (length out1 - k) (drop k out1) ≡ drop k out = take_rest out1 k ∙ rest in
    let second : out2 ≡ vs ++ drop c out = e2 ∙ ap (λ x. vs ++ drop n x) part ∙ ap (λ x. vs ++ x) (drop-drop n k out ∙ ap (λ i. drop i out) sum) in
    let none : drop (length out1 - k) (drop k out1) ≡ [] = drop_all (length out1 - k) (drop k out1) (simp length-drop (omega arith)) in
    ap (λ x. x ++ (out2 ++ drop (length out1 - k) (drop k out1))) front
    ∙ ap (λ x. us ++ (out2 ++ x)) none ∙ ap (λ x. us ++ x) (append-nil out2 ∙ second) ∙ sym (append_assoc us vs (drop c out))
