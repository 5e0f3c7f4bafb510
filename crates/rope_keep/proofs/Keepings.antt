-- The steps of keeping a text.
use Rattle.std.proofs.Common.{◌≡◌, ℕ, ◌+◌, ◌^◌, ◌<◌, ◌≤◌, max, List, [], ◌∷◌, ◌++◌, length, take, drop, sym, refl, ap, ◌∙◌, append-nil, arith, length-append, Some, None}
use Rattle.std.proofs.lemmas.List.{take_all, drop_at, length-take-le}
use Rattle.std.proofs.lemmas.Bool.{lt-ltb}
use Rattle.refusal.specs.declared.limits.TheConstants.{MOST_BROUGHT}
use Rattle.rope.specs.Tree.{height}
use Rattle.rope.specs.Arena.{part}
use Rattle.rope.specs.Memory.{arena_of, tree_of, Free}
use Rattle.rope.specs.Steps.{leaves, Appended, Buildable, Built}
use Rattle.rope.specs.Arena.{Root}
use Rattle.rope.specs.declared.record.Origin.{Origin}
use Rattle.rope.specs.declared.record.Origin.TheVariants.{Added}
use Rattle.rope.specs.declared.store.Store.{Store}
use Rattle.rope.proofs.Keeping.{keeps_none, keeps_trans}
use Rattle.rope.proofs.Levels.{level_most}
use Rattle.rope_cut.specs.Parts.{Rooted, Makes, text_in, height_in, higher, join_cost_in, edit_need}
use Rattle.rope_cut.proofs.Roots.{Stays, root_stays, rooted_stays}
use Rattle.rope_keep.specs.Kept.{Grows, LowRoot, text_need, add_need}

nothing : (bs : List ℕ) → length bs ≡ 0 → bs ≡ []
nothing [] e = refl
nothing (b ∷ bs) e = absurd (omega arith)

pub stands_empty : {V R : Type 0} {kind : _} (s : Store V R kind) (bs : List ℕ) → length bs ≡ 0 → LowRoot s None bs
stands_empty s bs e = record { root = refl; text_is = sym (nothing bs e); low = λ h. absurd (omega arith); six = λ _. omega arith }

pub grows_none : {V R : Type 0} {kind : _} (s : Store V R kind) (bs : List ℕ) (n : ℕ) → length bs ≡ 0 → Grows s s bs n
grows_none s bs n e =
    record {
      keeps = keeps_none s;
      added_used = omega arith;
      added = sym (append-nil (arena_of s).added) ∙ ap (λ (xs : List ℕ). (arena_of s).added ++ xs) (sym (nothing bs e));
      cost = omega arith;
    }

pub stands_built : {V R : Type 0} {kind : _} {s : Store V R kind} (t : Store V R kind) {r : ℕ} (origin : Origin) (start n : ℕ) (bs : List ℕ) → Built s t r origin start n → part (arena_of s) origin start n ≡ bs → length bs ≡ n → LowRoot t (Some r) bs
stands_built t {r} origin start n bs b is long =
    let more = ap leaves long in
    record {
      root = lt-ltb r t.records.used b.below;
      text_is = b.text_is ∙ is;
      low = λ h. omega (arith, b.low h, more);
      six = λ h. level_most (height (tree_of t r)) (leaves n) 6 (record { high = b.high; low = b.low }) (omega arith);
    }

module _ {V R : Type 0} {kind : _} {s s1 : Store V R kind} {at : ℕ} {bs : List ℕ} (free : Free s (text_need (length bs))) (some : 0 < length bs) (p : Appended s s1 at bs) where
  long : length (arena_of s).added ≡ at
  long = length-take-le s.added.used s.added.memory.now s.added.within ∙ sym p.at

  pub kept_buildable : Buildable s1 Added at (length bs)
  kept_buildable =
      record {
        free = record { room = omega (arith, free.room, ap (λ r. length r.memory.now) p.records, ap (λ r. r.used) p.records); few = omega (arith, free.few, ap (λ r. r.used) p.records) };
        some = some;
        within = omega (arith, ap length p.added, long, length-append (arena_of s).added bs);
      }

  pub kept_part : part (arena_of s1) Added at (length bs) ≡ bs
  kept_part =
      ap (λ (xs : List ℕ). take (length bs) (drop at xs)) p.added
      ∙ ap (take (length bs)) (drop_at (arena_of s).added bs at long)
      ∙ take_all (length bs) bs (omega arith)

  pub kept_grows : (s2 : Store V R kind) {r : ℕ} → Built s1 s2 r Added at (length bs) → Grows s s2 bs (text_need (length bs))
  kept_grows s2 b =
      let same : (arena_of s2).added ≡ (arena_of s1).added = ap (λ i. take i s2.added.memory.now) b.takes.added ∙ b.takes.keeps.added.before in
      record {
        keeps = keeps_trans p.keeps b.takes.keeps;
        added_used = b.takes.added ∙ p.more;
        added = same ∙ p.added;
        cost = omega (arith, b.takes.cost, ap (λ r. r.used) p.records);
      }

module _ {V R : Type 0} {kind : _} {s s1 : Store V R kind} {p more : Root} {bs : List ℕ} (here : Rooted s p) (short : (length bs ≤ MOST_BROUGHT) × (length (text_in s p) + length bs < 2 ^ 32))
    (free : Free s (add_need (height_in s p) (length bs))) (grown : Grows s s1 bs (text_need (length bs))) (stood : LowRoot s1 more bs) where
  p1 : Stays s s1 p
  p1 = root_stays grown.keeps p here.root

  low : height_in s1 more ≤ 6
  low = stood.six short.0

  pub both_rooted : Rooted s1 p × Rooted s1 more
  both_rooted = (rooted_stays p1 here, record { root = stood.root; short = omega (arith, ap length stood.text_is, short.0) })

  pub both_short : length (text_in s1 p) + length (text_in s1 more) < 2 ^ 32
  both_short = omega (arith, ap length p1.text_is, ap length stood.text_is, short.1)

  cheap : join_cost_in s1 p more ≤ edit_need (height_in s p)
  cheap = let h = p1.high in let l = low in omega arith

  pub both_free : Free s1 (join_cost_in s1 p more)
  both_free = record { room = omega (arith, cheap, free.room, grown.cost, grown.keeps.records.room); few = omega (arith, cheap, free.few, grown.cost) }

  module _ {s2 : Store V R kind} {r : Root} (j : Makes s1 s2 r (text_in s1 p ++ text_in s1 more) (join_cost_in s1 p more) (higher s1 p more + 1)) where
    pub longer_grows : Grows s s2 bs (add_need (height_in s p) (length bs))
    longer_grows =
        let same : (arena_of s2).added ≡ (arena_of s1).added = ap (λ i. take i s2.added.memory.now) j.takes.added ∙ j.takes.keeps.added.before in
        record {
          keeps = keeps_trans grown.keeps j.takes.keeps;
          added_used = j.takes.added ∙ grown.added_used;
          added = same ∙ grown.added;
          cost = omega (arith, grown.cost, j.takes.cost, cheap);
        }

    pub longer_text : text_in s2 r ≡ text_in s p ++ bs
    longer_text = j.text_is ∙ ap (λ (t : List ℕ). t ++ text_in s1 more) p1.text_is ∙ ap (λ (t : List ℕ). text_in s p ++ t) stood.text_is

    pub longer_high : higher s1 p more ≤ height_in s2 r → (height_in s p ≤ height_in s2 r) × (height_in s2 r ≤ max (height_in s p) 6 + 1)
    longer_high least = let h = p1.high in let l = low in (omega arith, omega (arith, j.low))
