-- The steps of edits of texts at roots.
use Rattle.std.proofs.Common.{◌≡◌, ℕ, ◌+◌, ◌-◌, ◌*◌, ◌^◌, ◌<◌, ◌≤◌, true, List, ◌++◌, length, take, drop, sym, refl, ap, ◌∙◌, arith, length-append, length-drop, Some, None}
use Rattle.std.proofs.lemmas.List.{length-take-le, drop_all}
use Rattle.std.proofs.lemmas.Slice.{between_is}
use Rattle.std.proofs.lemmas.Bool.{ltb-true, lt-ltb}
use Rattle.rope.specs.Tree.{text, height}
use Rattle.rope.specs.Arena.{rooted}
use Rattle.rope.specs.Memory.{Keeps, Free, Takes}
use Rattle.rope.specs.Arena.{Root}
use Rattle.rope.specs.declared.store.Store.{Store}
use Rattle.rope.proofs.Keeping.{keeps_tree, takes_none, takes_trans, takes_within, free_after}
use Rattle.rope.specs.Edits.{spliced}
use Rattle.rope_cut.specs.Parts.{Rooted, Makes, Spliceable, text_in, height_in, higher, part_cost, join_cost_in, splice_cost, edit_need, CutRoot, cut_cost}

-- a root stays one, with its text and its height
pub record Stays {V R : Type 0} {kind : _} (s s' : Store V R kind) (p : Root) : Type 0 where
  pub root : rooted s'.records.used p ≡ true
  pub text_is : text_in s' p ≡ text_in s p
  pub high : height_in s' p ≡ height_in s p

pub root_stays : {V R : Type 0} {kind : _} {s s' : Store V R kind} → Keeps s s' → (p : Root) → rooted s.records.used p ≡ true → Stays s s' p
root_stays k None h = record { root = refl; text_is = refl; high = refl }
root_stays {s} {s'} k (Some i) h =
    let below = ltb-true i s.records.used h in
    let same = keeps_tree k i below in
    record { root = lt-ltb i s'.records.used (omega (arith, k.records.more)); text_is = ap text same; high = ap height same }

pub rooted_stays : {V R : Type 0} {kind : _} {s s' : Store V R kind} {p : Root} → Stays s s' p → Rooted s p → Rooted s' p
rooted_stays k h = record { root = k.root; short = omega (arith, ap length k.text_is, h.short) }

-- nothing is left behind the whole text
pub back_none : {V R : Type 0} {kind : _} (s : Store V R kind) (p : Root) (a : ℕ) → length (text_in s p) ≤ a → Makes s s None (drop a (text_in s p)) (part_cost (height_in s p) 0) (height_in s p)
back_none s p a h =
    record { takes = takes_within (part_cost (height_in s p) 0) (omega arith) (takes_none s); root = refl; text_is = sym (drop_all a (text_in s p) h); low = omega arith }

pub cut_done : {V R : Type 0} {kind : _} {s s1 s2 : Store V R kind} {q r : Root} (p : Root) (a b : ℕ)
    → Makes s s1 q (take b (text_in s p)) (part_cost (height_in s p) (height_in s1 q)) (height_in s p)
    → Makes s1 s2 r (drop a (text_in s1 q)) (part_cost (height_in s1 q) (height_in s2 r)) (height_in s1 q)
    → CutRoot s s2 r p a b
cut_done {s} p a b x y =
    record {
      takes = takes_within (cut_cost (height_in s p)) (omega (arith, x.low, y.low)) (takes_trans x.takes y.takes);
      root = y.root;
      text_is = y.text_is ∙ ap (drop a) x.text_is ∙ sym (between_is (text_in s p) a b);
      low = omega (arith, x.low, y.low);
    }

module _ {V R : Type 0} {kind : _} {s s1 : Store V R kind} {p q before : Root} {a b : ℕ}
    (h : Spliceable s p a b q) (x : Makes s s1 before (take a (text_in s p)) (part_cost (height_in s p) (height_in s1 before)) (height_in s p)) where
  p1 : Stays s s1 p
  p1 = root_stays x.takes.keeps p h.rooted.0.root

  q1 : Stays s s1 q
  q1 = root_stays x.takes.keeps q h.rooted.1.root

  pub second_rooted : Rooted s1 p
  second_rooted = rooted_stays p1 h.rooted.0

  pub second_within : b ≤ length (text_in s1 p)
  second_within = omega (arith, ap length p1.text_is, h.part.1)

  pub second_free : Free s1 (4 * height_in s1 p + 1)
  second_free = free_after (4 * height_in s1 p + 1) (edit_need (higher s p q)) (omega (arith, x.low, p1.high)) h.free x.takes

  module _ {s2 : Store V R kind} {behind : Root} (y : Makes s1 s2 behind (drop b (text_in s1 p)) (part_cost (height_in s1 p) (height_in s2 behind)) (height_in s1 p)) where
    q2 : Stays s1 s2 q
    q2 = root_stays y.takes.keeps q q1.root

    before2 : Stays s1 s2 before
    before2 = root_stays y.takes.keeps before x.root

    behind_is : text_in s2 behind ≡ drop b (text_in s p)
    behind_is = y.text_is ∙ ap (drop b) p1.text_is

    behind_size : length (text_in s2 behind) ≡ length (text_in s p) - b
    behind_size = ap length behind_is ∙ length-drop b (text_in s p)

    other_is : text_in s2 q ≡ text_in s q
    other_is = q2.text_is ∙ q1.text_is

    before_size : length (text_in s1 before) ≡ a
    before_size = ap length x.text_is ∙ length-take-le a (text_in s p) (omega (arith, h.part.0, h.part.1))

    two : Takes s s2 (8 * height_in s p + 2)
    two = takes_within (8 * height_in s p + 2) (omega (arith, x.low, y.low, p1.high)) (takes_trans x.takes y.takes)

    pub tail_rooted : Rooted s2 q × Rooted s2 behind
    tail_rooted = (rooted_stays q2 (rooted_stays q1 h.rooted.1), record { root = y.root; short = omega (arith, behind_size, h.rooted.0.short) })

    pub tail_short : length (text_in s2 q) + length (text_in s2 behind) < 2 ^ 32
    tail_short = omega (arith, ap length other_is, behind_size, h.short, h.part.0)

    pub tail_free : Free s2 (join_cost_in s2 q behind)
    tail_free = free_after (join_cost_in s2 q behind) (edit_need (higher s p q)) (omega (arith, q1.high, q2.high, y.low, p1.high)) h.free two

    module _ {s3 : Store V R kind} {tail : Root} (z : Makes s2 s3 tail (text_in s2 q ++ text_in s2 behind) (join_cost_in s2 q behind) (higher s2 q behind + 1)) where
      before3 : Stays s2 s3 before
      before3 = root_stays z.takes.keeps before before2.root

      before_is : text_in s3 before ≡ take a (text_in s p)
      before_is = before3.text_is ∙ before2.text_is ∙ x.text_is

      tail_is : text_in s3 tail ≡ text_in s q ++ drop b (text_in s p)
      tail_is = z.text_is ∙ ap (λ (t : List ℕ). t ++ text_in s2 behind) other_is ∙ ap (λ (t : List ℕ). text_in s q ++ t) behind_is

      tail_size : length (text_in s3 tail) ≡ length (text_in s q) + (length (text_in s p) - b)
      tail_size = ap length tail_is ∙ length-append (text_in s q) (drop b (text_in s p)) ∙ ap (λ n. length (text_in s q) + n) (length-drop b (text_in s p))

      before_low : height_in s3 before ≤ height_in s p
      before_low = omega (arith, before3.high, before2.high, x.low)

      tail_low : height_in s3 tail ≤ higher s p q + 1
      tail_low = omega (arith, z.low, q1.high, q2.high, y.low, p1.high)

      three : Takes s s3 (11 * higher s p q + 3)
      three = takes_within (11 * higher s p q + 3) (omega (arith, q1.high, q2.high, y.low, p1.high)) (takes_trans two z.takes)

      pub last_rooted : Rooted s3 before × Rooted s3 tail
      last_rooted = (
        record { root = before3.root; short = omega (arith, ap length before3.text_is, ap length before2.text_is, before_size, h.part.0, h.part.1, h.rooted.0.short) },
        record { root = z.root; short = omega (arith, tail_size, h.short, h.part.0) },
      )

      pub last_short : length (text_in s3 before) + length (text_in s3 tail) < 2 ^ 32
      last_short = omega (arith, ap length before3.text_is, ap length before2.text_is, before_size, tail_size, h.short, h.part.0, h.part.1)

      pub last_free : Free s3 (join_cost_in s3 before tail)
      last_free = free_after (join_cost_in s3 before tail) (edit_need (higher s p q)) (omega (arith, before_low, tail_low)) h.free three

      pub replaced : {s4 : Store V R kind} {r : Root} → Makes s3 s4 r (text_in s3 before ++ text_in s3 tail) (join_cost_in s3 before tail) (higher s3 before tail + 1)
          → Makes s s4 r (spliced (text_in s p) a b (text_in s q)) (splice_cost (higher s p q) (height_in s4 r)) (higher s p q + 2)
      replaced {s4} {r} v =
          record {
            takes = takes_within (splice_cost (higher s p q) (height_in s4 r)) (omega (arith, before_low, tail_low)) (takes_trans three v.takes);
            root = v.root;
            text_is = v.text_is ∙ ap (λ (t : List ℕ). t ++ text_in s3 tail) before_is ∙ ap (λ (t : List ℕ). take a (text_in s p) ++ t) tail_is;
            low = omega (arith, v.low, before_low, tail_low);
          }
