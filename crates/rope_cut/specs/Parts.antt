-- What the edits of a tree need and give.
use Rattle.std.specs.Prelude.{◌≡◌, ℕ, ◌+◌, ◌-◌, ◌*◌, ◌^◌, ◌<◌, ◌≤◌, max, true, List, ◌++◌, length}
use Rattle.std.specs.List.{between}
use Rattle.rope_join.specs.Joins.{join_cost}
use Rattle.rope.specs.Edits.{spliced}
use Rattle.rope.specs.Tree.{Tree, text, size, height}
use Rattle.rope.specs.Arena.{text_of, height_of, rooted}
use Rattle.rope.specs.Memory.{arena_of, tree_of, Free, Takes}
use Rattle.rope.specs.Arena.{Root}
use Rattle.rope.specs.declared.store.Store.{Store}

-- what it takes to cut the tree of record i
pub record Partable {V R : Type 0} {kind : _} (s : Store V R kind) (i : ℕ) : Type 0 where
  pub below : i < s.records.used
  pub short : size (tree_of s i) < 2 ^ 32
  pub free : Free s (4 * height (tree_of s i) + 1)

-- the records that a front or a back of height k may take, of a tree of height h
abbrev pub part_cost : ℕ → ℕ → ℕ
part_cost h k = 3 * k + h + 1

-- x is a tree of the text bs, a front or a back of the tree t, and no higher
pub record Parted {V R : Type 0} {kind : _} (s s' : Store V R kind) (x : ℕ) (t : Tree) (bs : List ℕ) : Type 0 where
  pub takes : Takes s s' (part_cost (height t) (height (tree_of s' x)))
  pub below : x < s'.records.used
  pub text_is : text (tree_of s' x) ≡ bs
  pub lower : height (tree_of s' x) ≤ height t

-- the text and the height at a root
abbrev pub text_in : {V R : Type 0} {kind : _} → Store V R kind → Root → List ℕ
text_in s p = text_of (arena_of s) p

abbrev pub height_in : {V R : Type 0} {kind : _} → Store V R kind → Root → ℕ
height_in s p = height_of (arena_of s) p

abbrev pub higher : {V R : Type 0} {kind : _} → Store V R kind → Root → Root → ℕ
higher s p q = max (height_in s p) (height_in s q)

-- p is a root of s, and its length fits a record
pub record Rooted {V R : Type 0} {kind : _} (s : Store V R kind) (p : Root) : Type 0 where
  pub root : rooted s.records.used p ≡ true
  pub short : length (text_in s p) < 2 ^ 32

-- r is a root of the text bs, at most h high, for at most n records
pub record Makes {V R : Type 0} {kind : _} (s s' : Store V R kind) (r : Root) (bs : List ℕ) (n h : ℕ) : Type 0 where
  pub takes : Takes s s' n
  pub root : rooted s'.records.used r ≡ true
  pub text_is : text_in s' r ≡ bs
  pub low : height_in s' r ≤ h

-- r is a root of the text bs, a front or a back of that at p, and no higher, for the records of a front or a back
abbrev pub PartedRoot : {V R : Type 0} {kind : _} → Store V R kind → Store V R kind → Root → Root → List ℕ → Type 0
PartedRoot s s' r p bs = Makes s s' r bs (part_cost (height_in s p) (height_in s' r)) (height_in s p)

-- the records that a join of two roots may take
abbrev pub join_cost_in : {V R : Type 0} {kind : _} → Store V R kind → Root → Root → ℕ
join_cost_in s p q = join_cost (height_in s p) (height_in s q)

-- r is a root of the text at p and then that at q, as high as the higher of both or one higher, for the cost of a join
pub record JoinedRoots {V R : Type 0} {kind : _} (s s' : Store V R kind) (r p q : Root) : Type 0 where
  pub makes : Makes s s' r (text_in s p ++ text_in s q) (join_cost_in s p q) (higher s p q + 1)
  pub least : higher s p q ≤ height_in s' r

-- the need of an edit of texts that are at most h high
abbrev pub edit_need : ℕ → ℕ
edit_need h = 32 * (h + 1)

-- the records that a cut of a text that is h high may take
abbrev pub cut_cost : ℕ → ℕ
cut_cost h = 8 * h + 2

-- r is a root of the part a to b of the text at p, and no higher, for the cost of a cut
abbrev pub CutRoot : {V R : Type 0} {kind : _} → Store V R kind → Store V R kind → Root → Root → ℕ → ℕ → Type 0
CutRoot s s' r p a b = Makes s s' r (between a b (text_in s p)) (cut_cost (height_in s p)) (height_in s p)

-- the records that a splice of texts that are at most h high may take, where the text that it makes is k high
abbrev pub splice_cost : ℕ → ℕ → ℕ
splice_cost h k = 14 * h + 3 * k + 7

-- what it takes to replace the part a to b of the text at p by that at q
pub record Spliceable {V R : Type 0} {kind : _} (s : Store V R kind) (p : Root) (a b : ℕ) (q : Root) : Type 0 where
  pub rooted : Rooted s p × Rooted s q
  pub part : (a ≤ b) × (b ≤ length (text_in s p))
  pub short : length (text_in s p) - (b - a) + length (text_in s q) < 2 ^ 32
  pub free : Free s (edit_need (higher s p q))

-- r is a root of the text at p with its part a to b replaced by that at q, at most two higher than the higher of both, for at
-- most n records
abbrev pub SplicedRoot : {V R : Type 0} {kind : _} → Store V R kind → Store V R kind → Root → Root → ℕ → ℕ → Root → ℕ → Type 0
SplicedRoot s s' r p a b q n = Makes s s' r (spliced (text_in s p) a b (text_in s q)) n (higher s p q + 2)
