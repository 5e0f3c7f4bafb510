-- What the operations of a store need and give.
use Rattle.std.specs.Prelude.{◌≡◌, ℕ, ◌+◌, ◌-◌, ◌*◌, ◌/◌, ◌^◌, ◌<◌, ◌≤◌, true, List, ◌++◌, length}
use Rattle.refusal.specs.declared.limits.TheConstants.{MOST_BYTES}
use Rattle.monoid.specs.Monoid.{Model}
use Rattle.rope.specs.Tree.{Tree, text, size, height, lawful}
use Rattle.rope.specs.Arena.{shaped, row_in, part, origin_text, forest}
use Rattle.rope.specs.Memory.{arena_of, tree_of, Keeps, Free, Takes}
use Rattle.rope.specs.declared.record.Origin.{Origin}
use Rattle.rope.specs.declared.record.Record.{Record}
use Rattle.rope.specs.declared.store.Store.{Store}

-- the tree that a record would stand for, if it were pushed
abbrev pub tree_for : {V R : Type 0} {kind : _} → Store V R kind → Record R → Tree
tree_for s r = shaped (arena_of s).build (arena_of s).added (forest (arena_of s)) r.length r.shape

-- what a record to push has to be
pub record Fine {V R : Type 0} {kind : _} (m : Model V R) (s : Store V R kind) (r : Record R) : Type 0 where
  pub free : Free s 1
  pub lawful_tree : lawful (tree_for s r) ≡ true
  pub long : r.length ≡ size (tree_for s r)
  pub high : r.height ≡ height (tree_for s r)
  pub row : r.row ≡ row_in m (tree_for s r)

-- r is the one new record, and stands for the tree u
pub record Pushed {V R : Type 0} {kind : _} (s t : Store V R kind) (r : ℕ) (u : Tree) : Type 0 where
  pub takes : Takes s t 1
  pub at : r ≡ s.records.used
  pub one : t.records.used ≡ s.records.used + 1
  pub tree : tree_of t r ≡ u

-- what it takes to push a leaf
pub record Leafs {V R : Type 0} {kind : _} (s : Store V R kind) (origin : Origin) (start n : ℕ) : Type 0 where
  pub free : Free s 1
  pub some : 0 < n
  pub short : n ≤ 64
  pub within : start + n ≤ length (origin_text (arena_of s) origin)

-- what it takes to push an inner record over l and r
pub record Pairs {V R : Type 0} {kind : _} (s : Store V R kind) (l r : ℕ) : Type 0 where
  pub free : Free s 1
  pub left : l < s.records.used
  pub right : r < s.records.used
  pub left_near : height (tree_of s l) ≤ height (tree_of s r) + 1
  pub right_near : height (tree_of s r) ≤ height (tree_of s l) + 1
  pub short : size (tree_of s l) + size (tree_of s r) < 2 ^ 32

-- there is room for n bytes of added text
pub record Addable {V R : Type 0} {kind : _} (s : Store V R kind) (n : ℕ) : Type 0 where
  pub room : s.added.used + n ≤ length s.added.memory.now
  pub short : s.added.used + n ≤ MOST_BYTES

-- the text bs stands behind the added text, from the place r on
pub record Appended {V R : Type 0} {kind : _} (s t : Store V R kind) (r : ℕ) (bs : List ℕ) : Type 0 where
  pub at : r ≡ s.added.used
  pub more : t.added.used ≡ s.added.used + length bs
  pub added : (arena_of t).added ≡ (arena_of s).added ++ bs
  pub records : t.records ≡ s.records
  pub keeps : Keeps s t

-- how many leaves n bytes take
abbrev pub leaves : ℕ → ℕ
leaves n = (n + 63) / 64

-- a tree of a new text of n bytes is h high, and as low as its leaves allow
abbrev pub Low : ℕ → ℕ → Type 0
Low n h = 0 < h → 2 ^ (h - 1) < leaves n

-- what it takes to build a tree of a part
pub record Buildable {V R : Type 0} {kind : _} (s : Store V R kind) (origin : Origin) (start n : ℕ) : Type 0 where
  pub free : Free s (2 * leaves n)
  pub some : 0 < n
  pub within : start + n ≤ length (origin_text (arena_of s) origin)

-- r is a tree of the part, as low as its leaves allow
pub record Built {V R : Type 0} {kind : _} (s t : Store V R kind) (r : ℕ) (origin : Origin) (start n : ℕ) : Type 0 where
  pub takes : Takes s t (2 * leaves n - 1)
  pub exactly : t.records.used + 1 ≡ s.records.used + 2 * leaves n
  pub below : r < t.records.used
  pub text_is : text (tree_of t r) ≡ part (arena_of s) origin start n
  pub high : leaves n ≤ 2 ^ height (tree_of t r)
  pub low : Low n (height (tree_of t r))
