-- What a sound arena says of one of its records.
use Rattle.std.proofs.Common.{◌≡◌, ℕ, ◌+◌, ◌-◌, ◌<◌, ◌≤◌, min, max, true, ◌&&◌, ltb, leb, List, [], length, get_or, take, drop, sym, ap, ◌∙◌, subst, inl, inr, arith, length-append, length-drop, length-take}
use Rattle.std.proofs.lemmas.Bool.{and_parts, and_from, cases_lt, leb-true, ltb-true, le-leb, lt-ltb, false≢true}
use Rattle.std.proofs.lemmas.List.{get_or-take, get_or_past}
use Rattle.monoid.specs.Monoid.{Model, all_bytes}
use Rattle.rope.specs.Tree.{Tree, leaf, node, text, size, height, lawful}
use Rattle.rope.specs.Arena.{Arena, shaped, forest, tree_at, origin_text, part, row_in, Sound, Summed, Shows, Known, IsRecord, Reads, Splits}
use Rattle.rope.specs.declared.record.Record.{Record}
use Rattle.rope.specs.declared.record.Origin.{Origin}
use Rattle.rope.specs.declared.record.Shape.{Shape}
use Rattle.rope.specs.declared.record.Shape.TheVariants.{Leaf, Inner}
use Rattle.rope.proofs.Forests.{length_grown, grown_at, all_lawful_at, map_at}

pub size_node : (t u : Tree) → size (node t u) ≡ size t + size u
size_node t u = length-append (text t) (text u)

pub record NodeFacts (l r : Tree) : Type 0 where
  pub left : lawful l ≡ true
  pub right : lawful r ≡ true
  pub left_near : height l ≤ height r + 1
  pub right_near : height r ≤ height l + 1

pub node_facts : (l r : Tree) → lawful (node l r) ≡ true → NodeFacts l r
node_facts l r h =
    let p = and_parts (lawful l && lawful r && leb (height l) (height r + 1)) (leb (height r) (height l + 1)) h in
    let q = and_parts (lawful l && lawful r) (leb (height l) (height r + 1)) p.0 in
    let o = and_parts (lawful l) (lawful r) q.0 in
    record {
      left = o.0;
      right = o.1;
      left_near = leb-true _ _ q.1;
      right_near = leb-true _ _ p.1;
    }

pub lawful_node : (l r : Tree) → NodeFacts l r → lawful (node l r) ≡ true
lawful_node l r f =
    and_from (lawful l && lawful r && leb (height l) (height r + 1)) (leb (height r) (height l + 1))
    (and_from (lawful l && lawful r) (leb (height l) (height r + 1)) (and_from (lawful l) (lawful r) f.left f.right) (le-leb _ _ f.left_near))
    (le-leb _ _ f.right_near)

pub record LeafFacts (bs : List ℕ) : Type 0 where
  pub some : 0 < length bs
  pub short : length bs ≤ 64
  pub bytes : all_bytes bs ≡ true

pub leaf_facts : (bs : List ℕ) → lawful (leaf bs) ≡ true → LeafFacts bs
leaf_facts bs h =
    let p = and_parts (ltb 0 (length bs) && leb (length bs) 64) (all_bytes bs) h in
    let q = and_parts (ltb 0 (length bs)) (leb (length bs) 64) p.0 in
    record { some = ltb-true _ _ q.0; short = leb-true _ _ q.1; bytes = p.1 }

pub lawful_leaf : (bs : List ℕ) → LeafFacts bs → lawful (leaf bs) ≡ true
lawful_leaf bs f =
    and_from (ltb 0 (length bs) && leb (length bs) 64) (all_bytes bs)
    (and_from (ltb 0 (length bs)) (leb (length bs) 64) (lt-ltb _ _ f.some) (le-leb _ _ f.short)) f.bytes

child : (ts : List Tree) (i l : ℕ) → lawful (get_or (take i ts) l (leaf [])) ≡ true → (l < i) × (get_or (take i ts) l (leaf []) ≡ get_or ts l (leaf []))
child ts i l h =
    elim (cases_lt l i) [
      | inl k ↦ (k, get_or-take i ts l (leaf []) k)
      | inr k ↦ absurd (false≢true (subst (λ t. lawful t ≡ true) (get_or_past (take i ts) l (leaf []) (simp length-take (omega arith))) h))
    ]

module _ {R : Type 0} (a : Arena R) (i : ℕ) where
  shows_from : (n : ℕ) (sh : Shape) → lawful (tree_at a i) ≡ true → n ≡ size (tree_at a i)
      → tree_at a i ≡ shaped a.build a.added (take i (forest a)) n sh → Shows a i n sh
  shows_from n (Leaf origin start) fair long is =
      let xs = origin_text a origin in
      let some = (leaf_facts (take n (drop start xs)) (subst (λ t. lawful t ≡ true) is fair)).some in
      let there : n ≡ min n (length xs - start) = long ∙ ap size is ∙ length-take n (drop start xs) ∙ ap (min n) (length-drop start xs) in
      let pos : 0 < min n (length xs - start) = subst (λ k. 0 < k) (length-take n (drop start xs) ∙ ap (min n) (length-drop start xs)) some in
      (omega arith, is)
  shows_from n (Inner l x) fair long is =
      let f = node_facts (get_or (take i (forest a)) l (leaf [])) (get_or (take i (forest a)) x (leaf [])) (subst (λ t. lawful t ≡ true) is fair) in
      let kl = child (forest a) i l f.left in
      let kx = child (forest a) i x f.right in
      (kl.0, kx.0, is ∙ ap (λ t. node t (get_or (take i (forest a)) x (leaf []))) kl.1 ∙ ap (node (tree_at a l)) kx.1)

  pub lawful_at : Sound a → i < length a.records → lawful (tree_at a i) ≡ true
  lawful_at w below = all_lawful_at (forest a) i (leaf []) w.lawful_trees (omega (arith, length_grown a.build a.added [] a.records))

  pub reads : {V : Type 0} (m : Model V R) (w : Sound a) (r : Record R) → i < length a.records → r ≡ get_or a.records i r → Reads m a i r
  reads m w r below here =
      let rs = a.records in
      let many : i < length (forest a) = omega (arith, length_grown a.build a.added [] rs) in
      let fair = lawful_at w below in
      let long : r.length ≡ size (tree_at a i) = ap (λ (y : Record R). y.length) here ∙ map_at (λ (y : Record R). y.length) size rs (forest a) i r (leaf []) w.lengths many in
      let shape : tree_at a i ≡ shaped a.build a.added (take i (forest a)) r.length r.shape =
      grown_at a.build a.added [] rs i r (leaf []) below ∙ ap (λ (y : Record R). shaped a.build a.added (take i (forest a)) y.length y.shape) (sym here) in
      record {
        is = here;
        lawful_tree = fair;
        long = long;
        high = ap (λ (y : Record R). y.height) here ∙ map_at (λ (y : Record R). y.height) height rs (forest a) i r (leaf []) w.heights many;
        row = λ k. ap (λ (y : Record R). y.row) here ∙ map_at (λ (y : Record R). y.row) (row_in m) rs (forest a) i r (leaf []) k many;
        shows = shows_from r.length r.shape fair long shape;
      }

-- where summaries are kept, the row is known too
pub summed_reads : {V R : Type 0} (m : Model V R) {a : Arena R} {i : ℕ} {r : Record R} → Summed m a → Reads m a i r → IsRecord m a i r
summed_reads m k d = record { is = d.is; lawful_tree = d.lawful_tree; long = d.long; high = d.high; row = d.row k; shows = d.shows }

module _ {R Row : Type 0} {a : Arena R} {i : ℕ} {x : Record R} (d : Known a i x Row) where
  pub splits_of : {l r : ℕ} → x.shape ≡ Inner l r → Splits a i l r
  splits_of {l} {r} is =
      let shows = subst (Shows a i x.length) is d.shows in
      let near = node_facts (tree_at a l) (tree_at a r) (subst (λ (t : Tree). lawful t ≡ true) shows.2 d.lawful_tree) in
      record { left = shows.0; right = shows.1; tree = shows.2; left_near = near.left_near; right_near = near.right_near }

  pub leaf_of : {origin : Origin} {start : ℕ} → x.shape ≡ Leaf origin start → (start + x.length ≤ length (origin_text a origin)) × (tree_at a i ≡ leaf (part a origin start x.length))
  leaf_of is = subst (Shows a i x.length) is d.shows

-- the length and the height of a record over two others
pub splits_size : {R : Type 0} {a : Arena R} {i l r : ℕ} → Splits a i l r → size (tree_at a i) ≡ size (tree_at a l) + size (tree_at a r)
splits_size {a} {l} {r} e = ap size e.tree ∙ size_node (tree_at a l) (tree_at a r)

pub splits_high : {R : Type 0} {a : Arena R} {i l r : ℕ} → Splits a i l r → height (tree_at a i) ≡ max (height (tree_at a l)) (height (tree_at a r)) + 1
splits_high e = ap height e.tree
