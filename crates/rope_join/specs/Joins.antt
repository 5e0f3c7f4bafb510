-- What a join of trees needs and gives.
use Rattle.std.specs.Prelude.{◌≡◌, ℕ, ◌+◌, ◌-◌, ◌*◌, ◌^◌, ◌<◌, ◌≤◌, max, ◌++◌}
use Rattle.rope.specs.Tree.{Tree, text, size, height}
use Rattle.rope.specs.Memory.{tree_of, Free, Takes}
use Rattle.rope.specs.declared.store.Store.{Store}

-- what it takes to join l and r with at most n records
pub record Joinable {V R : Type 0} {kind : _} (s : Store V R kind) (l r n : ℕ) : Type 0 where
  pub free : Free s n
  pub left : l < s.records.used
  pub right : r < s.records.used
  pub short : size (tree_of s l) + size (tree_of s r) < 2 ^ 32

-- the heights of t and u differ by at most two
abbrev pub Balanceable : Tree → Tree → Type 0
Balanceable t u = (height t ≤ height u + 2) × (height u ≤ height t + 2)

-- the tree v has the text of t and then that of u, and is as high as the higher one or one higher; one higher where
-- their heights differ by at most one
pub record Joins (v t u : Tree) : Type 0 where
  pub text_is : text v ≡ text t ++ text u
  pub least : max (height t) (height u) ≤ height v
  pub most : height v ≤ max (height t) (height u) + 1
  pub level : height t ≤ height u + 1 → height u ≤ height t + 1 → height v ≡ max (height t) (height u) + 1

-- x is the join of the trees t and u, for at most n records
pub record Joined {V R : Type 0} {kind : _} (s s' : Store V R kind) (x : ℕ) (t u : Tree) (n : ℕ) : Type 0 where
  pub takes : Takes s s' n
  pub below : x < s'.records.used
  pub joins : Joins (tree_of s' x) t u

-- the records that a join of trees that are h and k high may take: 1 where the heights differ by at most one, and 3 more
-- for each level that they differ by beyond that; so never more than 3 for each level and 1
abbrev pub join_cost : ℕ → ℕ → ℕ
join_cost h k = 3 * ((h - k) + (k - h) - 1) + 1

abbrev pub apart : Tree → Tree → ℕ
apart t u = join_cost (height t) (height u)

-- what it takes to join a, b and c, of which the middle one is one higher than the others
pub record Threes {V R : Type 0} {kind : _} (s : Store V R kind) (a b c : ℕ) : Type 0 where
  pub free : Free s 3
  pub first : a < s.records.used
  pub second : b < s.records.used
  pub third : c < s.records.used
  pub higher : height (tree_of s b) ≡ height (tree_of s a) + 1
  pub equal : height (tree_of s c) ≡ height (tree_of s a)
  pub short : size (tree_of s a) + size (tree_of s b) + size (tree_of s c) < 2 ^ 32

-- x is the join of the trees t, u and v
pub record Middled {V R : Type 0} {kind : _} (s s' : Store V R kind) (x : ℕ) (t u v : Tree) : Type 0 where
  pub takes : Takes s s' 3
  pub below : x < s'.records.used
  pub text_is : text (tree_of s' x) ≡ text t ++ (text u ++ text v)
  pub high : height (tree_of s' x) ≡ height u + 1
