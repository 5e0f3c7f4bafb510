-- A tree that is built of two halves.
use Rattle.std.proofs.Common.{◌≡◌, ℕ, ◌+◌, ◌-◌, ◌*◌, ◌/◌, ◌^◌, ◌<◌, ◌≤◌, max, ◌++◌, length, take, drop, sym, ap, ◌∙◌, subst, arith}
use Rattle.refusal.specs.declared.limits.TheConstants.{MOST_BYTES}
use Rattle.rope.specs.Tree.{Tree, leaf, node, text, size, height}
use Rattle.rope.specs.Arena.{part, origin_text}
use Rattle.rope.specs.Memory.{arena_of, tree_of, Takes}
use Rattle.rope.specs.Steps.{leaves, Leafs, Pushed, Pairs, Buildable, Built}
use Rattle.rope.specs.declared.record.Origin.{Origin}
use Rattle.rope.specs.declared.record.Origin.TheVariants.{Build, Added}
use Rattle.rope.specs.declared.store.Store.{Store}
use Rattle.rope.proofs.Pushes.{length_part}
use Rattle.rope.proofs.Keeping.{takes_trans, takes_within, free_after, origin_keeps}
use Rattle.rope.proofs.Knows.{Knows, Near, known, knows_after, pairs_of, knows_pushed}
use Rattle.rope.proofs.Levels.{Level, level_left, level_right, level_next, half_leaves, part_split}

-- both texts are short
pub origin_short : {V R : Type 0} {kind : _} (s : Store V R kind) (origin : Origin) → length (origin_text (arena_of s) origin) ≤ MOST_BYTES
origin_short s Build = s.sound.build_short
origin_short s Added = s.sound.added_short

abbrev half : ℕ → ℕ
half n = leaves n / 2 * 64

module _ {V R : Type 0} {kind : _} (s : Store V R kind) (origin : Origin) (start n : ℕ) (b : Buildable s origin start n) where
  pub build_leafs : n ≤ 64 → Leafs s origin start n
  build_leafs h = record { free = record { room = omega (arith, b.free.room, b.some); few = omega (arith, b.free.few, b.some) }; some = b.some; short = h; within = b.within }

  pub built_leaf : {t : Store V R kind} {x : ℕ} → n ≤ 64 → Pushed s t x (leaf (part (arena_of s) origin start n)) → Built s t x origin start n
  built_leaf {t} {x} h p =
      let one : leaves n ≡ 1 = omega (arith, b.some) in
      let flat : height (tree_of t x) ≡ 0 = ap height p.tree in
      record {
        takes = takes_within (2 * leaves n - 1) (omega arith) p.takes;
        exactly = omega (arith, p.one);
        below = omega (arith, p.at, p.one);
        text_is = ap text p.tree;
        high = subst (λ k. leaves n ≤ 2 ^ k) (sym flat) (omega arith);
        low = λ k. absurd (omega arith);
      }

  module _ (big : 64 < n) where
    pub build_left : Buildable s origin start (half n)
    build_left =
        record {
          free = record { room = omega (arith, b.free.room, (half_leaves n big).0); few = omega (arith, b.free.few, (half_leaves n big).0) };
          some = omega arith;
          within = omega (arith, b.within, (half_leaves n big).2);
        }

    module _ {s1 : Store V R kind} {l : ℕ} (p : Built s s1 l origin start (half n)) where
      same_origin : origin_text (arena_of s1) origin ≡ origin_text (arena_of s) origin
      same_origin = origin_keeps p.takes origin

      pub build_right : Buildable s1 origin (start + half n) (n - half n)
      build_right =
          record {
            free = free_after (2 * leaves (n - half n)) (2 * leaves n) (omega (arith, (half_leaves n big).0, (half_leaves n big).1)) b.free p.takes;
            some = omega (arith, (half_leaves n big).2);
            within = omega (arith, ap length same_origin, b.within, (half_leaves n big).2);
          }

      module _ {s2 : Store V R kind} {r : ℕ} (q : Built s1 s2 r origin (start + half n) (n - half n)) where
        left_level : Level (height (tree_of s1 l)) (leaves n / 2)
        left_level = subst (Level (height (tree_of s1 l))) (half_leaves n big).0 (record { high = p.high; low = p.low })

        right_level : Level (height (tree_of s2 r)) (leaves n - leaves n / 2)
        right_level = subst (Level (height (tree_of s2 r))) (half_leaves n big).1 (record { high = q.high; low = q.low })

        right_text : text (tree_of s2 r) ≡ part (arena_of s) origin (start + half n) (n - half n)
        right_text = q.text_is ∙ ap (λ xs. take (n - half n) (drop (start + half n) xs)) same_origin

        left_size : size (tree_of s1 l) ≡ half n
        left_size = ap length p.text_is ∙ length_part (origin_text (arena_of s) origin) start (half n) (omega (arith, b.within, (half_leaves n big).2))

        right_size : size (tree_of s2 r) ≡ n - half n
        right_size = ap length right_text ∙ length_part (origin_text (arena_of s) origin) (start + half n) (n - half n) (omega (arith, b.within, (half_leaves n big).2))

        known_left : Knows s2 l (tree_of s1 l)
        known_left = knows_after q.takes (known p.below)

        known_right : Knows s2 r (tree_of s2 r)
        known_right = known q.below

        count : (0 < leaves n / 2) × (leaves n / 2 ≤ leaves n - leaves n / 2) × (leaves n - leaves n / 2 ≤ leaves n / 2 + 1)
        count = (omega arith, omega arith, omega arith)

        both_near : Near (tree_of s1 l) (tree_of s2 r)
        both_near =
            let h₁ = height (tree_of s1 l) in
            let h₂ = height (tree_of s2 r) in
            let up = level_left h₁ h₂ (leaves n / 2) (leaves n - leaves n / 2) left_level right_level count.0 count.1 count.2 in
            record {
              left = omega arith;
              right = level_right h₁ h₂ (leaves n / 2) (leaves n - leaves n / 2) left_level right_level count.0 count.1 count.2;
              short = omega (arith, left_size, right_size, b.within, origin_short s origin, (half_leaves n big).2);
            }

        used_two : s2.records.used + 2 ≡ s.records.used + 2 * leaves n
        used_two = omega (arith, p.exactly, q.exactly, (half_leaves n big).0, (half_leaves n big).1)

        both : Takes s s2 (2 * leaves n - 2)
        both = takes_within (2 * leaves n - 2) (omega (arith, (half_leaves n big).0, (half_leaves n big).1)) (takes_trans p.takes q.takes)

        pub built_pairs : Pairs s2 l r
        built_pairs = pairs_of known_left known_right (free_after 1 (2 * leaves n) (omega arith) b.free both) both_near

        pub built_whole : {s3 : Store V R kind} {x : ℕ} → Pushed s2 s3 x (node (tree_of s2 l) (tree_of s2 r)) → Built s s3 x origin start n
        built_whole {s3} {x} o =
            let k = knows_pushed known_left known_right o in
            let h₁ = height (tree_of s1 l) in
            let h₂ = height (tree_of s2 r) in
            let all : leaves n / 2 + (leaves n - leaves n / 2) ≡ leaves n = omega arith in
            let high = subst (Level (max h₁ h₂ + 1)) all (level_next h₁ h₂ (leaves n / 2) (leaves n - leaves n / 2) left_level right_level count.0 count.1 count.2) in
            let level : Level (height (tree_of s3 x)) (leaves n) = subst (λ (t : Tree). Level (height t) (leaves n)) (sym k.is) high in
            record {
              takes = takes_within (2 * leaves n - 1) (omega arith) (takes_trans both o.takes);
              exactly = omega (arith, used_two, o.one);
              below = k.below;
              text_is = ap text k.is ∙ ap (λ y. y ++ text (tree_of s2 r)) p.text_is ∙ ap (λ y. part (arena_of s) origin start (half n) ++ y) right_text
                  ∙ part_split (origin_text (arena_of s) origin) start (half n) n (omega (arith, (half_leaves n big).2));
              high = level.high;
              low = level.low;
            }
