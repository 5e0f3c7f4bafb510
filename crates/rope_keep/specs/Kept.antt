-- What it takes to keep a text, and what it gives.
use Rattle.std.specs.Prelude.{◌≡◌, ℕ, ◌+◌, ◌*◌, ◌≤◌, true, List, ◌++◌, length}
use Rattle.refusal.specs.declared.limits.TheConstants.{MOST_BROUGHT}
use Rattle.rope.specs.Arena.{rooted}
use Rattle.rope.specs.Memory.{arena_of, Keeps}
use Rattle.rope.specs.Steps.{leaves, Low}
use Rattle.rope.specs.Arena.{Root}
use Rattle.rope.specs.declared.store.Store.{Store}
use Rattle.rope_cut.specs.Parts.{text_in, height_in, edit_need}

-- the need of a new text of n bytes
abbrev pub text_need : ℕ → ℕ
text_need n = 2 * leaves n

-- the need of n bytes behind a text that is h high
abbrev pub add_need : ℕ → ℕ → ℕ
add_need h n = text_need n + edit_need h

-- t is s with the text bs behind the added text, and at most n records more
pub record Grows {V R : Type 0} {kind : _} (s t : Store V R kind) (bs : List ℕ) (n : ℕ) : Type 0 where
  pub keeps : Keeps s t
  pub added_used : t.added.used ≡ s.added.used + length bs
  pub added : (arena_of t).added ≡ (arena_of s).added ++ bs
  pub cost : t.records.used ≤ s.records.used + n

-- r is a new root of the text bs, as low as its leaves allow
pub record LowRoot {V R : Type 0} {kind : _} (s : Store V R kind) (r : Root) (bs : List ℕ) : Type 0 where
  pub root : rooted s.records.used r ≡ true
  pub text_is : text_in s r ≡ bs
  pub low : Low (length bs) (height_in s r)
  pub six : length bs ≤ MOST_BROUGHT → height_in s r ≤ 6
