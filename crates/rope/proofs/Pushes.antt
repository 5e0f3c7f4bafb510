-- The records that may be pushed, and the memory with one more.
use Rattle.std.proofs.Common.{◌≡◌, ℕ, ◌+◌, ◌≤◌, max, true, List, [], ◌∷◌, ◌++◌, map, length, get_or, take, drop, sym, refl, ap, ◌∙◌, arith, length-append, length-drop, length-take}
use Rattle.std.proofs.lemmas.List.{map_push, get_or_push}
use Rattle.monoid.specs.Monoid.{Model, Lawful, fold_of, all_bytes}
use Rattle.monoid.proofs.Folds.{fold_append}
use Rattle.rope.specs.Tree.{Tree, leaf, text, size, height, all_lawful}
use Rattle.rope.specs.Arena.{Arena, Sound, Summed, IsRecord, arena, forest, part, origin_text, row_in}
use Rattle.rope.specs.Memory.{arena_of, tree_of}
use Rattle.rope.specs.Steps.{tree_for, Fine, Leafs, Pairs}
use Rattle.rope.specs.declared.record.Record.{Record}
use Rattle.rope.specs.declared.record.Shape.TheVariants.{Leaf, Inner}
use Rattle.rope.specs.declared.record.Origin.{Origin}
use Rattle.rope.specs.declared.store.Store.{Store}
use Rattle.rope.proofs.Forests.{grown_append, all_lawful_push}
use Rattle.rope.proofs.Readings.{lawful_node, lawful_leaf}
use Rattle.rope.proofs.Keeping.{forest_length, used_length}

-- the memory of s with the record r behind the others
module _ {V R : Type 0} {kind : _} (m : Model V R) (s : Store V R kind) (summed : Summed m (arena_of s)) (r : Record R) (f : Fine m s r)
    (rs : List (Record R)) (more : rs ≡ (arena_of s).records ++ (r ∷ [])) where
  abbrev ts : List Tree
  ts = forest (arena_of s)

  abbrev after : Arena R
  after = arena s.build.now (arena_of s).added rs

  pub pushed_forest : forest after ≡ ts ++ (tree_for s r ∷ [])
  pushed_forest =
      ap (λ x. forest (arena s.build.now (arena_of s).added x)) more
      ∙ grown_append s.build.now (arena_of s).added [] (arena_of s).records (r ∷ [])

  pushed_map : {A : Type 0} (p : Record R → A) (q : Tree → A) → map p (arena_of s).records ≡ map q ts → p r ≡ q (tree_for s r) → map p rs ≡ map q (forest after)
  pushed_map p q h k =
      ap (map p) more ∙ map_push p (arena_of s).records r
      ∙ ap (λ xs. xs ++ (p r ∷ [])) h ∙ ap (λ x. map q ts ++ (x ∷ [])) k
      ∙ sym (map_push q ts (tree_for s r)) ∙ ap (map q) (sym pushed_forest)

  pub pushed_sound : Sound after
  pushed_sound =
      record {
        build_short = s.sound.build_short;
        added_short = s.sound.added_short;
        few = omega (arith, ap length more, length-append (arena_of s).records (r ∷ []), used_length s, f.free.few);
        lawful_trees = ap all_lawful pushed_forest ∙ all_lawful_push ts (tree_for s r) s.sound.lawful_trees f.lawful_tree;
        lengths = pushed_map (λ y. y.length) size s.sound.lengths f.long;
        heights = pushed_map (λ y. y.height) height s.sound.heights f.high;
      }

  pub pushed_summed : Summed m after
  pushed_summed = pushed_map (λ y. y.row) (row_in m) summed f.row

  pub pushed_tree : get_or (forest after) s.records.used (leaf []) ≡ tree_for s r
  pushed_tree = ap (λ (xs : List Tree). get_or xs s.records.used (leaf [])) pushed_forest ∙ get_or_push ts (tree_for s r) (leaf []) s.records.used (forest_length s)

pub inner_fine : {V R : Type 0} {kind : _} (m : Model V R) (laws : Lawful m) (s : Store V R kind) (l r : ℕ) (p : Pairs s l r) (x y : Record R) (h : ℕ) (v : R)
    → IsRecord m (arena_of s) l x → IsRecord m (arena_of s) r y → h ≡ max x.height y.height
    → v ≡ m.row (m.joined (fold_of m (text (tree_of s l))) (fold_of m (text (tree_of s r))))
    → Fine m s (record { shape = Inner l r; length = x.length + y.length; height = h + 1; row = v })
inner_fine m laws s l r p x y h v al ar high row =
    record {
      free = p.free;
      lawful_tree = lawful_node (tree_of s l) (tree_of s r) (record { left = al.lawful_tree; right = ar.lawful_tree; left_near = p.left_near; right_near = p.right_near });
      long = omega (arith, length-append (text (tree_of s l)) (text (tree_of s r)), al.long, ar.long);
      high = ap (λ n. n + 1) (high ∙ ap (λ n. max n y.height) al.high ∙ ap (max (height (tree_of s l))) ar.high);
      row = row ∙ ap m.row (sym (fold_append m laws (text (tree_of s l)) (text (tree_of s r))));
    }

pub length_part : {X : Type 0} (xs : List X) (start n : ℕ) → start + n ≤ length xs → length (take n (drop start xs)) ≡ n
length_part xs start n h = simp (length-take, length-drop) (omega arith)

pub leaf_fine : {V R : Type 0} {kind : _} (m : Model V R) (s : Store V R kind) (origin : Origin) (start n : ℕ) (p : Leafs s origin start n) (v : R)
    → v ≡ m.row (fold_of m (part (arena_of s) origin start n)) → all_bytes (part (arena_of s) origin start n) ≡ true
    → Fine m s (record { shape = Leaf origin start; length = n; height = 0; row = v })
leaf_fine m s origin start n p v row bytes =
    let long = length_part (origin_text (arena_of s) origin) start n p.within in
    record {
      free = p.free;
      lawful_tree = lawful_leaf (part (arena_of s) origin start n) (record { some = omega (arith, long, p.some); short = omega (arith, long, p.short); bytes = bytes });
      long = sym long;
      high = refl;
      row = row;
    }
