-- Rotations and joins of pure trees: which pairs are near enough for one record, and what the result is.
use Rattle.std.proofs.Common.{◌≡◌, ℕ, ◌+◌, ◌^◌, ◌<◌, ◌≤◌, max, ◌++◌, length, sym, ap, ◌∙◌, inl, inr, append_assoc, arith, length-append}
use Rattle.std.proofs.lemmas.Bool.{cases_lt}
use Rattle.rope.specs.Tree.{Tree, node, text, size, height}
use Rattle.rope.proofs.Knows.{Near}
use Rattle.rope.proofs.Readings.{size_node}
use Rattle.rope_join.specs.Joins.{Joins, apart}

pub joins_size : {v t u : Tree} → Joins v t u → size v ≡ size t + size u
joins_size {v} {t} {u} j = ap length j.text_is ∙ length-append (text t) (text u)

pub apart_swap : (t u : Tree) → apart t u ≡ apart u t
apart_swap t u = omega arith

pub near_swap : {t u : Tree} → Near t u → Near u t
near_swap n = record { left = n.right; right = n.left; short = omega (arith, n.short) }

-- the middle tree B, of C and D, is one higher than its neighbours A and E
pub record Middle (A B C D E : Tree) : Type 0 where
  pub is : B ≡ node C D
  pub left_near : height C ≤ height D + 1
  pub right_near : height D ≤ height C + 1
  pub higher : height B ≡ height A + 1
  pub equal : height E ≡ height A
  pub short : size A + size B + size E < 2 ^ 32

module _ {A B C D E : Tree} (b : Middle A B C D E) where
  deep : height A ≡ max (height C) (height D)
  deep = omega (arith, ap height b.is)

  long : size B ≡ size C + size D
  long = ap size b.is ∙ size_node C D

  pub middle_first : Near A C
  middle_first = let h = deep in let z = long in record { left = omega arith; right = omega arith; short = omega arith }

  pub middle_second : Near D E
  middle_second = let h = deep in let z = long in record { left = omega arith; right = omega arith; short = omega arith }

  pub middle_third : Near (node A C) (node D E)
  middle_third = let h = deep in record { left = omega arith; right = omega arith; short = omega (arith, long, size_node A C, size_node D E) }

  pub middle_text : text (node (node A C) (node D E)) ≡ text A ++ (text B ++ text E)
  middle_text =
      append_assoc (text A) (text C) (text D ++ text E)
      ∙ ap (λ x. text A ++ x) (sym (append_assoc (text C) (text D) (text E)) ∙ ap (λ (x : Tree). text x ++ text E) (sym b.is))

  pub middle_high : height (node (node A C) (node D E)) ≡ height B + 1
  middle_high = let h = deep in omega arith

-- T, of the inner child B, on the side of A, and the outer child C, is higher than A by two
pub record Heavy (A B C T : Tree) : Type 0 where
  pub high : height T ≡ max (height B) (height C) + 1
  pub long : size T ≡ size B + size C
  pub inner_near : height B ≤ height C + 1
  pub outer_near : height C ≤ height B + 1
  pub heavy : height T ≡ height A + 2
  pub short : size A + size T < 2 ^ 32

module _ {A B C T : Tree} (h : Heavy A B C T) where
  -- an inner child that is the higher one is the middle of a double rotation
  pub steep_higher : height C < height B → height B ≡ height A + 1
  steep_higher s = omega arith

  pub steep_equal : height C < height B → height C ≡ height A
  steep_equal s = omega arith

  -- otherwise a single rotation puts A and the inner child under one record
  pub flat_first : height B ≤ height C → Near A B
  flat_first f = record { left = omega arith; right = omega arith; short = omega arith }

  pub flat_second : (n : Tree) → height n ≡ max (height A) (height B) + 1 → size n ≡ size A + size B → height B ≤ height C → Near n C
  flat_second n e z f = record { left = omega arith; right = omega arith; short = omega arith }

  pub flat_high : (v : ℕ) → v ≡ max (max (height A) (height B) + 1) (height C) + 1 → height B ≤ height C → (height T ≤ v) × (v ≤ height T + 1)
  flat_high v e f = (omega arith, omega arith)

  pub heavy_left : (v : Tree) → text v ≡ text A ++ text T → height T ≤ height v → height v ≤ height T + 1 → Joins v A T
  heavy_left v e l u = record { text_is = e; least = omega arith; most = omega arith; level = λ p q. absurd (omega arith) }

  pub heavy_right : (v : Tree) → text v ≡ text T ++ text A → height T ≤ height v → height v ≤ height T + 1 → Joins v T A
  heavy_right v e l u = record { text_is = e; least = omega arith; most = omega arith; level = λ p q. absurd (omega arith) }

-- L, of the outer child A and the inner child B, is higher than R by two or more
pub record Steep (A B L R : Tree) : Type 0 where
  pub high : height L ≡ max (height A) (height B) + 1
  pub long : size L ≡ size A + size B
  pub outer_near : height A ≤ height B + 1
  pub inner_near : height B ≤ height A + 1
  pub steep : height R + 1 < height L

module _ {A B L R : Tree} (d : Steep A B L R) where
  pub steep_cost : apart B R + 3 ≤ apart L R
  steep_cost = omega arith

  -- T is the join of the inner child and R
  module _ (T : Tree) (least : max (height B) (height R) ≤ height T) (most : height T ≤ max (height B) (height R) + 1) where
    pub steep_near : (height A ≤ height T + 2) × (height T ≤ height A + 2)
    steep_near = (omega arith, omega arith)

    pub steep_least : (v : ℕ) → max (height A) (height T) ≤ v → (height A ≤ height T + 1 → height T ≤ height A + 1 → v ≡ max (height A) (height T) + 1) → height L ≤ v
    steep_least v low level =
        elim (cases_lt (height A + 1) (height T)) [
          | inl k ↦ omega arith
          | inr k ↦ omega (arith, level (omega arith) k)
        ]

    pub steep_most : (v : ℕ) → v ≤ max (height A) (height T) + 1 → (height A ≤ height T + 1 → height T ≤ height A + 1 → v ≡ max (height A) (height T) + 1) → v ≤ height L + 1
    steep_most v top level =
        elim (cases_lt (height A + 1) (height T)) [
          | inl k ↦ omega arith
          | inr k ↦ omega (arith, level (omega arith) k)
        ]

  pub steep_left : {T : Tree} → L ≡ node A B → Joins T B R → (v : Tree) → Joins v A T → Joins v L R
  steep_left {T} is j v k =
      let least = steep_least T j.least j.most (height v) k.least k.level in
      let most = steep_most T j.least j.most (height v) k.most k.level in
      record {
        text_is = k.text_is ∙ ap (λ x. text A ++ x) j.text_is ∙ sym (append_assoc (text A) (text B) (text R)) ∙ ap (λ (x : Tree). text x ++ text R) (sym is);
        least = omega arith;
        most = omega arith;
        level = λ p q. absurd (omega arith);
      }

  pub steep_right : {T : Tree} → L ≡ node B A → Joins T R B → (v : Tree) → Joins v T A → Joins v R L
  steep_right {T} is j v k =
      let level : height A ≤ height T + 1 → height T ≤ height A + 1 → height v ≡ max (height A) (height T) + 1 = λ p q. omega (arith, k.level q p) in
      let least = steep_least T (omega (arith, j.least)) (omega (arith, j.most)) (height v) (omega (arith, k.least)) level in
      let most = steep_most T (omega (arith, j.least)) (omega (arith, j.most)) (height v) (omega (arith, k.most)) level in
      record {
        text_is = k.text_is ∙ ap (λ x. x ++ text A) j.text_is ∙ append_assoc (text R) (text B) (text A) ∙ ap (λ (x : Tree). text R ++ text x) (sym is);
        least = omega arith;
        most = omega arith;
        level = λ p q. absurd (omega arith);
      }
