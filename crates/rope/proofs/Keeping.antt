-- What an operation keeps, one after the other, and that a kept record keeps its tree.
use Rattle.std.proofs.Common.{◌≡◌, ℕ, ◌+◌, ◌-◌, ◌<◌, ◌≤◌, List, [], ◌++◌, length, get_or, take, drop, sym, refl, ap, ◌∙◌, arith, take-take}
use Rattle.std.proofs.lemmas.List.{drop-drop, length-take-le, get_or_append_left, take-append-drop}
use Rattle.rope.specs.Tree.{Tree, leaf}
use Rattle.rope.specs.Arena.{grown, forest, origin_of, origin_text}
use Rattle.rope.specs.Memory.{arena_of, tree_of, Keeps, Free, Takes}
use Rattle.rope.specs.Lents.{Fills}
use Rattle.rope.specs.declared.record.Record.{Record}
use Rattle.rope.specs.declared.record.Origin.{Origin}
use Rattle.rope.specs.declared.store.Store.{Store}
use Rattle.rope.proofs.Forests.{grown_append, grown_more, length_grown}

module _ {X : Type 0} where
  pub fills_none : (n : ℕ) (xs : List X) → Fills n n xs xs
  fills_none n xs = record { more = omega arith; room = refl; before = refl; behind = refl }

  drop_more : (j k : ℕ) (xs ys : List X) → j ≤ k → drop j xs ≡ drop j ys → drop k xs ≡ drop k ys
  drop_more j k xs ys h e =
      let sum : j + (k - j) ≡ k = omega arith in
      ap (λ i. drop i xs) (sym sum) ∙ sym (drop-drop (k - j) j xs) ∙ ap (drop (k - j)) e ∙ drop-drop (k - j) j ys ∙ ap (λ i. drop i ys) sum

  take_less : (j k : ℕ) (xs ys : List X) → j ≤ k → take k xs ≡ take k ys → take j xs ≡ take j ys
  take_less j k xs ys h e = sym (take-take j k xs h) ∙ ap (take j) e ∙ take-take j k ys h

  pub fills_trans : {i j k : ℕ} {xs ys zs : List X} → Fills i j xs ys → Fills j k ys zs → Fills i k xs zs
  fills_trans {i} {j} {k} {xs} {ys} {zs} p q =
      record {
        more = omega (arith, p.more, q.more);
        room = q.room ∙ p.room;
        before = take_less i j zs ys p.more q.before ∙ p.before;
        behind = q.behind ∙ drop_more j k ys xs q.more p.behind;
      }

  -- what was used begins what is used
  pub fills_front : {n k : ℕ} {xs ys : List X} → Fills n k xs ys → take n xs ++ drop n (take k ys) ≡ take k ys
  fills_front {n} {k} {xs} {ys} p =
      ap (λ z. z ++ drop n (take k ys)) (sym p.before ∙ sym (take-take n k ys p.more)) ∙ take-append-drop n (take k ys)

pub used_length : {V R : Type 0} {kind : _} (s : Store V R kind) → length (arena_of s).records ≡ s.records.used
used_length s = length-take-le s.records.used s.records.memory.now s.records.within

pub forest_length : {V R : Type 0} {kind : _} (s : Store V R kind) → length (forest (arena_of s)) ≡ s.records.used
forest_length s = length_grown (arena_of s).build (arena_of s).added [] (arena_of s).records ∙ used_length s

pub free_less : {V R : Type 0} {kind : _} {s : Store V R kind} (j k : ℕ) → j ≤ k → Free s k → Free s j
free_less j k h f = record { room = omega (arith, f.room); few = omega (arith, f.few) }

module _ {V R : Type 0} {kind : _} where
  pub keeps_none : (s : Store V R kind) → Keeps s s
  keeps_none s = record { build = refl; added = fills_none s.added.used s.added.memory.now; records = fills_none s.records.used s.records.memory.now }

  pub keeps_trans : {a b c : Store V R kind} → Keeps a b → Keeps b c → Keeps a c
  keeps_trans k l =
      record {
        build = l.build ∙ k.build;
        added = fills_trans k.added l.added;
        records = fills_trans k.records l.records;
      }

  pub takes_none : (s : Store V R kind) → Takes s s 0
  takes_none s = record { keeps = keeps_none s; added = refl; cost = omega arith }

  pub takes_trans : {a b c : Store V R kind} {i j : ℕ} → Takes a b i → Takes b c j → Takes a c (i + j)
  takes_trans p q = record { keeps = keeps_trans p.keeps q.keeps; added = q.added ∙ p.added; cost = omega (arith, p.cost, q.cost) }

  pub takes_within : {a b : Store V R kind} {i : ℕ} (j : ℕ) → i ≤ j → Takes a b i → Takes a b j
  takes_within j h p = record { keeps = p.keeps; added = p.added; cost = omega (arith, p.cost) }

  pub free_after : {s t : Store V R kind} {i : ℕ} (j k : ℕ) → i + j ≤ k → Free s k → Takes s t i → Free t j
  free_after j k h f p = record { room = omega (arith, f.room, p.cost, p.keeps.records.room); few = omega (arith, f.few, p.cost) }

  -- every earlier record keeps its tree
  pub keeps_tree : {s t : Store V R kind} → Keeps s t → (i : ℕ) → i < s.records.used → tree_of t i ≡ tree_of s i
  keeps_tree {s} {t} k i h =
      let rs = (arena_of s).records in
      let more = drop s.records.used (arena_of t).records in
      let added = (arena_of s).added in
      let behind = drop s.added.used (arena_of t).added in
      let fore : List Tree = grown s.build.now (added ++ behind) [] rs in
      let rest : List Tree = grown s.build.now (added ++ behind) fore more in
      let built : forest (arena_of t) ≡ grown s.build.now (arena_of t).added [] (arena_of t).records = ap (λ b. grown b (arena_of t).added [] (arena_of t).records) k.build in
      let texted : grown s.build.now (arena_of t).added [] (arena_of t).records ≡ grown s.build.now (added ++ behind) [] (arena_of t).records =
      ap (λ x. grown s.build.now x [] (arena_of t).records) (sym (fills_front k.added)) in
      let whole : forest (arena_of t) ≡ fore ++ rest =
      built ∙ texted ∙ ap (λ (x : List (Record R)). grown s.build.now (added ++ behind) [] x) (sym (fills_front k.records)) ∙ grown_append s.build.now (added ++ behind) [] rs more in
      let same : fore ≡ forest (arena_of s) = grown_more s.build.now added behind [] rs s.sound.lengths in
      ap (λ (ts : List Tree). get_or ts i (leaf [])) (whole ∙ ap (λ (ts : List Tree). ts ++ rest) same)
      ∙ get_or_append_left (forest (arena_of s)) rest (leaf []) i (omega (arith, forest_length s))

  -- both texts stay
  pub origin_keeps : {s t : Store V R kind} {n : ℕ} → Takes s t n → (origin : Origin) → origin_text (arena_of t) origin ≡ origin_text (arena_of s) origin
  origin_keeps {s} {t} p origin =
      let same : (arena_of t).added ≡ (arena_of s).added = ap (λ i. take i t.added.memory.now) p.added ∙ p.keeps.added.before in
      ap (λ b. origin_of b (arena_of t).added origin) p.keeps.build ∙ ap (λ x. origin_of s.build.now x origin) same

  -- an operation that adds no text leaves the added memory as it was, to the byte
  pub takes_added : {s t : Store V R kind} {n : ℕ} → Takes s t n → t.added.memory.now ≡ s.added.memory.now
  takes_added {s} {t} p =
      let u = s.added.used in
      let behind : drop u t.added.memory.now ≡ drop u s.added.memory.now = ap (λ i. drop i t.added.memory.now) (sym p.added) ∙ p.keeps.added.behind ∙ ap (λ i. drop i s.added.memory.now) p.added in
      sym (take-append-drop u t.added.memory.now) ∙ ap (λ x. x ++ drop u t.added.memory.now) p.keeps.added.before ∙ ap (λ x. take u s.added.memory.now ++ x) behind ∙ take-append-drop u s.added.memory.now
