-- Fingerprints of parts, and what they tell.
use Rattle.std.proofs.Common.{◌≡◌, ℕ, ◌+◌, ◌-◌, ◌≤◌, true, List, [], length, drop, Some, None, sym, refl, ap, ◌∙◌, subst, append-nil, arith}
use Rattle.std.specs.List.{between}
use Rattle.std.proofs.lemmas.List.Edits.{length-between}
use Rattle.std.proofs.lemmas.Bool.{ltb-true}
use Rattle.std.proofs.lemmas.Grind.{common_steps}
use Rattle.monoid.specs.Monoid.{fold_of, all_bytes}
use Rattle.monoid.specs.LineColumnValues.{line_column_model}
use Rattle.monoid.specs.declared.line_column.LineColumn.{LineColumn}
use Rattle.monoid.specs.declared.pair.Pair.{Pair}
use Rattle.monoid.proofs.Folds.{all_bytes_append, all_bytes_take, all_bytes_drop}
use Rattle.monoid.proofs.Pairs.{fold_pair}
use Rattle.zemor.specs.Bits.{text_bits}
use Rattle.zemor.specs.Values.{sl2}
use Rattle.zemor.specs.declared.matrix.Sl2.{Sl2}
use Rattle.zemor.proofs.Texts.{slips_show, length_text_bits}
use Rattle.rope.specs.Tree.{Tree, leaf, node, text, lawful}
use Rattle.rope.specs.Arena.{Arena, Root, Sound, tree_at, text_of, rooted}
use Rattle.rope.specs.Memory.{seen}
use Rattle.rope_read.specs.Texts.{bytes_in}
use Rattle.rope_read.specs.declared.text.Text.{Text}
use Rattle.rope.proofs.Readings.{leaf_facts, node_facts, lawful_at}
use Rattle.shelf_view.specs.Documents.{fine}
use Rattle.shelf_view.specs.State.{State, text_at}
use Rattle.rope_read.specs.Texts.{of_bounds}
use Rattle.rope_read.proofs.Slices.{bounds_lawful}
use Rattle.shelf_view.specs.Questions.{of_document, of_same}
use Rattle.shelf_view.specs.Marked.{marked, fingerprint, Compares}
use Rattle.shelf_view.specs.declared.sameness.Sameness.{Sameness}
use Rattle.shelf_view.proofs.Placing.{root_of}

tree_bytes : (t : Tree) → lawful t ≡ true → all_bytes (text t) ≡ true
tree_bytes (leaf bs) h = (leaf_facts bs h).bytes
tree_bytes (node l r) h = let f = node_facts l r h in all_bytes_append (text l) (text r) (tree_bytes l f.left) (tree_bytes r f.right)

-- every byte of the text at a root is below 256
rooted_bytes : {R : Type 0} (a : Arena R) (p : Root) → Sound a → rooted (length a.records) p ≡ true → all_bytes (text_of a p) ≡ true
rooted_bytes a None w r = refl
rooted_bytes a (Some i) w r = tree_bytes (tree_at a i) (lawful_at a i w (ltb-true i (length a.records) r))

pub root_bytes : {R : Type 0} (a : Arena R) (p : Root) → Sound a → fine a p ≡ true → all_bytes (text_of a p) ≡ true
root_bytes a p w f = rooted_bytes a p w (root_of a p f)

-- of at most five bytes, equal fingerprints are of equal texts
pub short_equal : (s t : List ℕ) → all_bytes s ≡ true → all_bytes t ≡ true → length s ≤ 5 → length t ≤ 5 → fingerprint s ≡ fingerprint t → s ≡ t
short_equal s t hs ht ls lt e =
    (slips_show s t hs ht record {
      u = [];
      w = text_bits s;
      x = text_bits t;
      v = [];
      w_short = omega (arith, length_text_bits s);
      x_short = omega (arith, length_text_bits t);
      one_bits = sym (append-nil (text_bits s));
      other_bits = sym (append-nil (text_bits t));
    }).0 e

-- the fingerprint of a text, by what is kept of it
pub first_half : (t : List ℕ) (v : Pair Sl2 LineColumn) → v ≡ fold_of marked t → v.first ≡ fingerprint t
first_half t v is = let first : Pair Sl2 LineColumn → Sl2 = λ q. q.first in ap first (is ∙ fold_pair sl2 line_column_model t)

-- every byte of a slice is below 256
pub slice_bytes : {V R : Type 0} {kind : _} (t : Text V R kind) → all_bytes (bytes_in t) ≡ true
slice_bytes t =
    let xs = text_of (seen t.view) t.root in
    all_bytes_take (t.to - t.from) (drop t.from xs) (all_bytes_drop t.from xs (rooted_bytes (seen t.view) t.root t.view.sound t.inside))

-- slices of at most five bytes with one fingerprint are equal
pub slices_equal : {V R : Type 0} {kind : _} (one other : Text V R kind) → length (bytes_in one) ≤ 5 → length (bytes_in other) ≤ 5 → fingerprint (bytes_in one) ≡ fingerprint (bytes_in other)
    → bytes_in one ≡ bytes_in other
slices_equal one other h k same = short_equal (bytes_in one) (bytes_in other) (slice_bytes one) (slice_bytes other) h k same

-- the n bytes from a of a text are n
pub stretch_long : {V R : Type 0} {kind : _} (text : List ℕ) (t : Text V R kind) (a n : ℕ) → of_bounds text a (a + n) ≡ None → bytes_in t ≡ between a (a + n) text → length (bytes_in t) ≡ n
stretch_long text t a n none is = omega (arith, ap length is, length-between text a (a + n) (bounds_lawful text a (a + n) none).1)

-- where both documents are there, and both parts lawful, nothing is refused
pub same_none : (s : State) (d a e b n : ℕ) → of_document s d ≡ None → of_document s e ≡ None → of_bounds (text_at s d) a (a + n) ≡ None → of_bounds (text_at s e) b (b + n) ≡ None
    → of_same s d a e b n ≡ None
same_none s d a e b n h k p q = grind (arith, common_steps)

pub compared : (n : ℕ) (x y u v : List ℕ) (r : Sameness) → length x ≡ n → x ≡ u → y ≡ v → Compares (length x) x y r → Compares n u v r
compared n x y u v r long ex ey h = subst (λ k. Compares k u v r) long (subst (λ z. Compares (length x) z v r) ex (subst (λ z. Compares (length x) x z r) ey h))
