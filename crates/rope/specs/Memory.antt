-- The memory of a store: what is used of it, and what an operation leaves as it was.
use Rattle.std.specs.Prelude.{◌≡◌, ℕ, ◌+◌, ◌≤◌, length}
use Rattle.refusal.specs.declared.limits.TheConstants.{MOST_RECORDS}
use Rattle.rope.specs.Tree.{Tree}
use Rattle.rope.specs.Arena.{Arena, tree_at}
use Rattle.rope.specs.Lents.{Fills}
use Rattle.rope.specs.Held.{arena_in, seen_in}
use Rattle.rope.specs.declared.store.Store.{Store}
use Rattle.rope.specs.declared.view.RopeView.{RopeView}

-- what a store uses of its memory
abbrev pub arena_of : {V R : Type 0} {kind : _} → Store V R kind → Arena R
arena_of s = arena_in s.build.now s.added s.records

-- what a view shows
abbrev pub seen : {V R : Type 0} {kind : _} → RopeView V R kind → Arena R
seen v = seen_in v.slices

abbrev pub tree_of : {V R : Type 0} {kind : _} → Store V R kind → ℕ → Tree
tree_of s i = tree_at (arena_of s) i

-- nothing of s is lost in t, and what t does not use is untouched
pub record Keeps {V R : Type 0} {kind : _} (s t : Store V R kind) : Type 0 where
  pub build : t.build.now ≡ s.build.now
  pub added : Fills s.added.used t.added.used s.added.memory.now t.added.memory.now
  pub records : Fills s.records.used t.records.used s.records.memory.now t.records.memory.now

-- n records are free
pub record Free {V R : Type 0} {kind : _} (s : Store V R kind) (n : ℕ) : Type 0 where
  pub room : s.records.used + n ≤ length s.records.memory.now
  pub few : s.records.used + n ≤ MOST_RECORDS

-- t is s with at most n records more, and no other text
pub record Takes {V R : Type 0} {kind : _} (s t : Store V R kind) (n : ℕ) : Type 0 where
  pub keeps : Keeps s t
  pub added : t.added.used ≡ s.added.used
  pub cost : t.records.used ≤ s.records.used + n
