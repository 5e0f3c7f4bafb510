-- The steps of a join on a store.
use Rattle.std.proofs.Common.{◌≡◌, ℕ, ◌+◌, ◌^◌, ◌<◌, ◌≤◌, ◌++◌, sym, refl, ap, ◌∙◌, subst, append_assoc, arith}
use Rattle.rope.specs.Tree.{Tree, node, text, size, height}
use Rattle.rope.specs.Arena.{Splits}
use Rattle.rope.specs.Memory.{arena_of, tree_of, Free, Takes}
use Rattle.rope.specs.Steps.{Pushed, Pairs}
use Rattle.rope.specs.declared.store.Store.{Store}
use Rattle.rope.proofs.Keeping.{takes_trans, takes_within, free_after, free_less}
use Rattle.rope.proofs.Knows.{Knows, known, knows_after, knows_pushed, pairs_of}
use Rattle.rope.proofs.Readings.{size_node, splits_size, splits_high}
use Rattle.rope_join.specs.Joins.{apart, Joins, Joinable, Joined, Threes, Middled}
use Rattle.rope_join.proofs.Trees.{joins_size, apart_swap, near_swap}
use Rattle.rope_join.proofs.Trees.{Middle, middle_first, middle_second, middle_third, middle_text, middle_high}
use Rattle.rope_join.proofs.Trees.{Heavy, steep_higher, steep_equal, flat_first, flat_second, flat_high, heavy_left, heavy_right}
use Rattle.rope_join.proofs.Trees.{Steep, steep_cost, steep_near, steep_left, steep_right}

pub joinable_of : {V R : Type 0} {kind : _} {s : Store V R kind} {l r n : ℕ} {t u : Tree} → Knows s l t → Knows s r u → Free s n → size t + size u < 2 ^ 32 → Joinable s l r n
joinable_of kl kr free short = record { free = free; left = kl.below; right = kr.below; short = omega (arith, ap size kl.is, ap size kr.is) }

pub joined_of : {V R : Type 0} {kind : _} {s s' : Store V R kind} {x n : ℕ} {t u v : Tree} → Takes s s' n → Knows s' x v → Joins v t u → Joined s s' x t u n
joined_of {t} {u} p k j = record { takes = p; below = k.below; joins = subst (λ (y : Tree). Joins y t u) (sym k.is) j }

-- a join of what two records stand for now is one of the trees that they stood for
pub joined_known : {V R : Type 0} {kind : _} {s s' : Store V R kind} {l r x n : ℕ} {t u : Tree}
    → Knows s l t → Knows s r u → Joined s s' x (tree_of s l) (tree_of s r) n → Joins (tree_of s' x) t u
joined_known {s} {s'} {r} {x} {t} kl kr j =
    subst (λ (y : Tree). Joins (tree_of s' x) t y) kr.is (subst (λ (y : Tree). Joins (tree_of s' x) y (tree_of s r)) kl.is j.joins)

-- both children of a record are known
know_left : {V R : Type 0} {kind : _} {s : Store V R kind} {i l r : ℕ} → i < s.records.used → Splits (arena_of s) i l r → Knows s l (tree_of s l)
know_left h e = known (omega (arith, e.left))

know_right : {V R : Type 0} {kind : _} {s : Store V R kind} {i l r : ℕ} → i < s.records.used → Splits (arena_of s) i l r → Knows s r (tree_of s r)
know_right h e = known (omega (arith, e.right))

-- the double rotation
module _ {V R : Type 0} {kind : _} {s : Store V R kind} {a b c l r : ℕ} (h : Threes s a b c) (e : Splits (arena_of s) b l r) where
  trees : Middle (tree_of s a) (tree_of s b) (tree_of s l) (tree_of s r) (tree_of s c)
  trees = record { is = e.tree; left_near = e.left_near; right_near = e.right_near; higher = h.higher; equal = h.equal; short = h.short }

  pub middle_one : Pairs s a l
  middle_one = pairs_of (known h.first) (know_left h.second e) (free_less 1 3 (omega arith) h.free) (middle_first trees)

  module _ {s1 : Store V R kind} {x : ℕ} (p : Pushed s s1 x (node (tree_of s a) (tree_of s l))) where
    left_made : Knows s1 x (node (tree_of s a) (tree_of s l))
    left_made = knows_pushed (known h.first) (know_left h.second e) p

    right_kept : Knows s1 r (tree_of s r)
    right_kept = knows_after p.takes (know_right h.second e)

    third_kept : Knows s1 c (tree_of s c)
    third_kept = knows_after p.takes (known h.third)

    pub middle_two : Pairs s1 r c
    middle_two = pairs_of right_kept third_kept (free_after 1 3 (omega arith) h.free p.takes) (middle_second trees)

    module _ {s2 : Store V R kind} {y : ℕ} (q : Pushed s1 s2 y (node (tree_of s1 r) (tree_of s1 c))) where
      pub middle_three : Pairs s2 x y
      middle_three =
          pairs_of (knows_after q.takes left_made) (knows_pushed right_kept third_kept q) (free_after 1 3 (omega arith) h.free (takes_trans p.takes q.takes)) (middle_third trees)

      pub middled : {s3 : Store V R kind} {z : ℕ} → Pushed s2 s3 z (node (tree_of s2 x) (tree_of s2 y)) → Middled s s3 z (tree_of s a) (tree_of s b) (tree_of s c)
      middled o =
          let k = knows_pushed (knows_after q.takes left_made) (knows_pushed right_kept third_kept q) o in
          record {
            takes = takes_trans (takes_trans p.takes q.takes) o.takes;
            below = k.below;
            text_is = ap text k.is ∙ middle_text trees;
            high = ap height k.is ∙ middle_high trees;
          }

-- the rotation to the left: a, and then b, of l and r, which is higher by two
module _ {V R : Type 0} {kind : _} {s : Store V R kind} {a b l r : ℕ} (h : Joinable s a b 3) (e : Splits (arena_of s) b l r) (heavy : height (tree_of s b) ≡ height (tree_of s a) + 2) where
  rising : Heavy (tree_of s a) (tree_of s l) (tree_of s r) (tree_of s b)
  rising = record { high = splits_high e; long = splits_size e; inner_near = e.left_near; outer_near = e.right_near; heavy = heavy; short = h.short }

  left_text : text (tree_of s a) ++ (text (tree_of s l) ++ text (tree_of s r)) ≡ text (tree_of s a) ++ text (tree_of s b)
  left_text = ap (λ (t : Tree). text (tree_of s a) ++ text t) (sym e.tree)

  pub left_threes : height (tree_of s r) < height (tree_of s l) → Threes s a l r
  left_threes steep =
      record {
        free = h.free;
        first = h.left;
        second = omega (arith, h.right, e.left);
        third = omega (arith, h.right, e.right);
        higher = steep_higher rising steep;
        equal = steep_equal rising steep;
        short = omega (arith, splits_size e, h.short);
      }

  pub left_doubled : {s' : Store V R kind} {x : ℕ} → height (tree_of s r) < height (tree_of s l)
      → Middled s s' x (tree_of s a) (tree_of s l) (tree_of s r) → Joined s s' x (tree_of s a) (tree_of s b) 3
  left_doubled {s'} {x} steep p =
      let up = splits_high e in
      record { takes = p.takes; below = p.below; joins = heavy_left rising (tree_of s' x) (p.text_is ∙ left_text) (omega (arith, p.high)) (omega (arith, p.high)) }

  module _ (flat : height (tree_of s l) ≤ height (tree_of s r)) where
    pub left_one : Pairs s a l
    left_one = pairs_of (known h.left) (know_left h.right e) (free_less 1 3 (omega arith) h.free) (flat_first rising flat)

    module _ {s1 : Store V R kind} {x : ℕ} (p : Pushed s s1 x (node (tree_of s a) (tree_of s l))) where
      left_inner : Knows s1 x (node (tree_of s a) (tree_of s l))
      left_inner = knows_pushed (known h.left) (know_left h.right e) p

      left_outer : Knows s1 r (tree_of s r)
      left_outer = knows_after p.takes (know_right h.right e)

      pub left_two : Pairs s1 x r
      left_two =
          pairs_of left_inner left_outer (free_after 1 3 (omega arith) h.free p.takes)
          (flat_second rising (node (tree_of s a) (tree_of s l)) refl (size_node (tree_of s a) (tree_of s l)) flat)

      pub left_done : {s2 : Store V R kind} {z : ℕ} → Pushed s1 s2 z (node (tree_of s1 x) (tree_of s1 r)) → Joined s s2 z (tree_of s a) (tree_of s b) 3
      left_done o =
          let v : Tree = node (node (tree_of s a) (tree_of s l)) (tree_of s r) in
          let high = flat_high rising (height v) refl flat in
          joined_of (takes_within 3 (omega arith) (takes_trans p.takes o.takes)) (knows_pushed left_inner left_outer o)
          (heavy_left rising v (append_assoc (text (tree_of s a)) (text (tree_of s l)) (text (tree_of s r)) ∙ left_text) high.0 high.1)

-- the rotation to the right: b, of l and r, and then a, which is lower by two
module _ {V R : Type 0} {kind : _} {s : Store V R kind} {a b l r : ℕ} (h : Joinable s b a 3) (e : Splits (arena_of s) b l r) (heavy : height (tree_of s b) ≡ height (tree_of s a) + 2) where
  falling : Heavy (tree_of s a) (tree_of s r) (tree_of s l) (tree_of s b)
  falling =
      let up = splits_high e in
      record { high = omega arith; long = omega (arith, splits_size e); inner_near = e.right_near; outer_near = e.left_near; heavy = heavy; short = omega (arith, h.short) }

  right_text : text (tree_of s l) ++ (text (tree_of s r) ++ text (tree_of s a)) ≡ text (tree_of s b) ++ text (tree_of s a)
  right_text = sym (append_assoc (text (tree_of s l)) (text (tree_of s r)) (text (tree_of s a))) ∙ ap (λ (t : Tree). text t ++ text (tree_of s a)) (sym e.tree)

  pub right_threes : height (tree_of s l) < height (tree_of s r) → Threes s l r a
  right_threes steep =
      record {
        free = h.free;
        first = omega (arith, h.left, e.left);
        second = omega (arith, h.left, e.right);
        third = h.right;
        higher = omega (arith, steep_higher falling steep, steep_equal falling steep);
        equal = sym (steep_equal falling steep);
        short = omega (arith, splits_size e, h.short);
      }

  pub right_doubled : {s' : Store V R kind} {x : ℕ} → height (tree_of s l) < height (tree_of s r)
      → Middled s s' x (tree_of s l) (tree_of s r) (tree_of s a) → Joined s s' x (tree_of s b) (tree_of s a) 3
  right_doubled {s'} {x} steep p =
      let up = splits_high e in
      record { takes = p.takes; below = p.below; joins = heavy_right falling (tree_of s' x) (p.text_is ∙ right_text) (omega (arith, p.high)) (omega (arith, p.high)) }

  module _ (flat : height (tree_of s r) ≤ height (tree_of s l)) where
    pub right_one : Pairs s r a
    right_one = pairs_of (know_right h.left e) (known h.right) (free_less 1 3 (omega arith) h.free) (near_swap (flat_first falling flat))

    module _ {s1 : Store V R kind} {x : ℕ} (p : Pushed s s1 x (node (tree_of s r) (tree_of s a))) where
      right_inner : Knows s1 x (node (tree_of s r) (tree_of s a))
      right_inner = knows_pushed (know_right h.left e) (known h.right) p

      right_outer : Knows s1 l (tree_of s l)
      right_outer = knows_after p.takes (know_left h.left e)

      pub right_two : Pairs s1 l x
      right_two =
          pairs_of right_outer right_inner (free_after 1 3 (omega arith) h.free p.takes)
          (near_swap (flat_second falling (node (tree_of s r) (tree_of s a)) (omega arith) (omega (arith, size_node (tree_of s r) (tree_of s a))) flat))

      pub right_done : {s2 : Store V R kind} {z : ℕ} → Pushed s1 s2 z (node (tree_of s1 l) (tree_of s1 x)) → Joined s s2 z (tree_of s b) (tree_of s a) 3
      right_done o =
          let v : Tree = node (tree_of s l) (node (tree_of s r) (tree_of s a)) in
          let high = flat_high falling (height v) (omega arith) flat in
          joined_of (takes_within 3 (omega arith) (takes_trans p.takes o.takes)) (knows_pushed right_outer right_inner o)
          (heavy_right falling v right_text high.0 high.1)

-- a join that goes down the left side: i, of a and b, is higher than j by two or more
module _ {V R : Type 0} {kind : _} {s : Store V R kind} {i j a b : ℕ} (h : Joinable s i j (apart (tree_of s i) (tree_of s j)))
    (e : Splits (arena_of s) i a b) (steep : height (tree_of s j) + 1 < height (tree_of s i)) where
  left_steep : Steep (tree_of s a) (tree_of s b) (tree_of s i) (tree_of s j)
  left_steep = record { high = splits_high e; long = splits_size e; outer_near = e.left_near; inner_near = e.right_near; steep = steep }

  pub down_left_joinable : Joinable s b j (apart (tree_of s b) (tree_of s j))
  down_left_joinable =
      joinable_of (know_right h.left e) (known h.right) (free_less _ (apart (tree_of s i) (tree_of s j)) (omega (arith, steep_cost left_steep)) h.free)
      (omega (arith, splits_size e, h.short))

  module _ {s1 : Store V R kind} {x : ℕ} (p : Joined s s1 x (tree_of s b) (tree_of s j) (apart (tree_of s b) (tree_of s j))) where
    left_kept : Knows s1 a (tree_of s a)
    left_kept = knows_after p.takes (know_left h.left e)

    left_joined : Knows s1 x (tree_of s1 x)
    left_joined = known p.below

    pub down_left_rest : Joinable s1 a x 3
    down_left_rest =
        joinable_of left_kept left_joined (free_after 3 (apart (tree_of s i) (tree_of s j)) (steep_cost left_steep) h.free p.takes) (omega (arith, splits_size e, joins_size p.joins, h.short))

    pub down_left_near : (height (tree_of s1 a) ≤ height (tree_of s1 x) + 2) × (height (tree_of s1 x) ≤ height (tree_of s1 a) + 2)
    down_left_near =
        let k = ap height left_kept.is in
        let near = steep_near left_steep (tree_of s1 x) p.joins.least p.joins.most in
        (omega (arith, near.0), omega (arith, near.1))

    pub down_left_done : {s2 : Store V R kind} {y : ℕ} → Joined s1 s2 y (tree_of s1 a) (tree_of s1 x) 3 → Joined s s2 y (tree_of s i) (tree_of s j) (apart (tree_of s i) (tree_of s j))
    down_left_done {s2} {y} q =
        record {
          takes = takes_within (apart (tree_of s i) (tree_of s j)) (steep_cost left_steep) (takes_trans p.takes q.takes);
          below = q.below;
          joins = steep_left left_steep e.tree p.joins (tree_of s2 y) (joined_known left_kept left_joined q);
        }

-- a join that goes down the right side: j, of b and a, is higher than i by two or more
module _ {V R : Type 0} {kind : _} {s : Store V R kind} {i j a b : ℕ} (h : Joinable s i j (apart (tree_of s i) (tree_of s j)))
    (e : Splits (arena_of s) j b a) (steep : height (tree_of s i) + 1 < height (tree_of s j)) where
  right_steep : Steep (tree_of s a) (tree_of s b) (tree_of s j) (tree_of s i)
  right_steep = let up = splits_high e in record { high = omega arith; long = omega (arith, splits_size e); outer_near = e.right_near; inner_near = e.left_near; steep = steep }

  less : apart (tree_of s i) (tree_of s b) + 3 ≤ apart (tree_of s i) (tree_of s j)
  less = omega (arith, steep_cost right_steep, apart_swap (tree_of s i) (tree_of s b), apart_swap (tree_of s i) (tree_of s j))

  pub down_right_joinable : Joinable s i b (apart (tree_of s i) (tree_of s b))
  down_right_joinable =
      joinable_of (known h.left) (know_left h.right e) (free_less _ (apart (tree_of s i) (tree_of s j)) (omega (arith, less)) h.free) (omega (arith, splits_size e, h.short))

  module _ {s1 : Store V R kind} {x : ℕ} (p : Joined s s1 x (tree_of s i) (tree_of s b) (apart (tree_of s i) (tree_of s b))) where
    right_stays : Knows s1 a (tree_of s a)
    right_stays = knows_after p.takes (know_right h.right e)

    right_joined : Knows s1 x (tree_of s1 x)
    right_joined = known p.below

    pub down_right_rest : Joinable s1 x a 3
    down_right_rest =
        joinable_of right_joined right_stays (free_after 3 (apart (tree_of s i) (tree_of s j)) less h.free p.takes) (omega (arith, splits_size e, joins_size p.joins, h.short))

    pub down_right_near : (height (tree_of s1 x) ≤ height (tree_of s1 a) + 2) × (height (tree_of s1 a) ≤ height (tree_of s1 x) + 2)
    down_right_near =
        let k = ap height right_stays.is in
        let near = steep_near right_steep (tree_of s1 x) (omega (arith, p.joins.least)) (omega (arith, p.joins.most)) in
        (omega (arith, near.1), omega (arith, near.0))

    pub down_right_done : {s2 : Store V R kind} {y : ℕ} → Joined s1 s2 y (tree_of s1 x) (tree_of s1 a) 3 → Joined s s2 y (tree_of s i) (tree_of s j) (apart (tree_of s i) (tree_of s j))
    down_right_done {s2} {y} q =
        record {
          takes = takes_within (apart (tree_of s i) (tree_of s j)) less (takes_trans p.takes q.takes);
          below = q.below;
          joins = steep_right right_steep e.tree p.joins (tree_of s2 y) (joined_known right_joined right_stays q);
        }
