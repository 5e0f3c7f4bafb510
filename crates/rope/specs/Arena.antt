-- What the used memory means: each record's tree, and what holds of all of them.
use Rattle.std.specs.Prelude.{◌≡◌, ℕ, ◌+◌, ◌<◌, ◌≤◌, Bool, true, List, [], ◌∷◌, ◌++◌, map, length, take, drop, Some, None, Option, nat_lt, slice_index_or}
use Rattle.refusal.specs.declared.limits.TheConstants.{MOST_BYTES, MOST_RECORDS}
use Rattle.monoid.specs.Monoid.{Model, fold_of, from_row}
use Rattle.rope.specs.Tree.{Tree, leaf, node, text, size, height, lawful, all_lawful}
use Rattle.rope.specs.declared.record.Record.{Record}
use Rattle.rope.specs.declared.record.Shape.{Shape}
use Rattle.rope.specs.declared.record.Shape.TheVariants.{Leaf, Inner}
use Rattle.rope.specs.declared.record.Origin.{Origin}
use Rattle.rope.specs.declared.record.Origin.TheVariants.{Build, Added}

-- what is used of the build text, of the added text and of the records
pub record Arena (R : Type 0) : Type 0 where
  pub build : List ℕ
  pub added : List ℕ
  pub records : List (Record R)

abbrev pub arena : {R : Type 0} → List ℕ → List ℕ → List (Record R) → Arena R
arena build added records = record { build = build; added = added; records = records }

-- the text that an origin names
abbrev pub origin_of : List ℕ → List ℕ → Origin → List ℕ
origin_of build added Build = build
origin_of build added Added = added

-- what a record of n bytes stands for, by the trees of those before it; a place that is none of theirs counts as an
-- empty leaf, which is not lawful
abbrev pub shaped : List ℕ → List ℕ → List Tree → ℕ → Shape → Tree
shaped build added before n (Leaf s start) = leaf (take n (drop start (origin_of build added s)))
shaped build added before n (Inner l r) = node (slice_index_or before l (leaf [])) (slice_index_or before r (leaf []))

-- the trees of records, by the trees of those before them
abbrev pub grown : {R : Type 0} → List ℕ → List ℕ → List Tree → List (Record R) → List Tree
grown build added before [] = []
grown build added before (r ∷ rs) =
    shaped build added before r.length r.shape ∷ grown build added (before ++ (shaped build added before r.length r.shape ∷ [])) rs

-- the tree of each record
abbrev pub forest : {R : Type 0} → Arena R → List Tree
forest a = grown a.build a.added [] a.records

-- the tree of record i
abbrev pub tree_at : {R : Type 0} → Arena R → ℕ → Tree
tree_at a i = slice_index_or (forest a) i (leaf [])

abbrev pub origin_text : {R : Type 0} → Arena R → Origin → List ℕ
origin_text a origin = origin_of a.build a.added origin

-- n bytes from start on, of the text that origin names
abbrev pub part : {R : Type 0} → Arena R → Origin → ℕ → ℕ → List ℕ
part a origin start n = take n (drop start (origin_text a origin))

-- what always holds: the memory is not too large, each tree is lawful, and each record keeps its tree's length and height
pub record Sound {R : Type 0} (a : Arena R) : Type 0 where
  pub build_short : length a.build ≤ MOST_BYTES
  pub added_short : length a.added ≤ MOST_BYTES
  pub few : length a.records ≤ MOST_RECORDS
  pub lawful_trees : all_lawful (forest a) ≡ true
  pub lengths : map (λ r. r.length) a.records ≡ map size (forest a)
  pub heights : map (λ r. r.height) a.records ≡ map height (forest a)

-- the row of the fold of a tree's text
abbrev pub row_in : {V R : Type 0} → Model V R → Tree → R
row_in m t = m.row (fold_of m (text t))

-- each record keeps the row of the fold of its text
abbrev pub Summed : {V R : Type 0} → Model V R → Arena R → Type 0
Summed m a = map (λ r. r.row) a.records ≡ map (row_in m) (forest a)

-- what the shape of record i, of n bytes, says of its tree
abbrev pub Shows : {R : Type 0} → Arena R → ℕ → ℕ → Shape → Type 0
Shows a i n (Leaf origin start) = (start + n ≤ length (origin_text a origin)) × (tree_at a i ≡ leaf (part a origin start n))
Shows a i n (Inner l r) = (l < i) × (r < i) × (tree_at a i ≡ node (tree_at a l) (tree_at a r))

-- what is known of record i, where it is r; Row is what is known of its row
pub record Known {R : Type 0} (a : Arena R) (i : ℕ) (r : Record R) (Row : Type 0) : Type 0 where
  pub is : r ≡ slice_index_or a.records i r
  pub lawful_tree : lawful (tree_at a i) ≡ true
  pub long : r.length ≡ size (tree_at a i)
  pub high : r.height ≡ height (tree_at a i)
  pub row : Row
  pub shows : Shows a i r.length r.shape

-- record i is r, and r keeps the row of the fold of its text
abbrev pub IsRecord : {V R : Type 0} → Model V R → Arena R → ℕ → Record R → Type 0
IsRecord m a i r = Known a i r (r.row ≡ row_in m (tree_at a i))

-- the same, where nothing need be known of the rows
abbrev pub Reads : {V R : Type 0} → Model V R → Arena R → ℕ → Record R → Type 0
Reads m a i r = Known a i r (Summed m a → r.row ≡ row_in m (tree_at a i))

-- record i is an inner one over l and r
pub record Splits {R : Type 0} (a : Arena R) (i l r : ℕ) : Type 0 where
  pub left : l < i
  pub right : r < i
  pub tree : tree_at a i ≡ node (tree_at a l) (tree_at a r)
  pub left_near : height (tree_at a l) ≤ height (tree_at a r) + 1
  pub right_near : height (tree_at a r) ≤ height (tree_at a l) + 1

-- a root is nowhere for the empty text, or at a record
abbrev pub Root : Type 0
Root = Option ℕ

-- the text, the height and the summary that are kept at a root; an empty text has no record and height 0
abbrev pub text_of : {R : Type 0} → Arena R → Root → List ℕ
text_of a None = []
text_of a (Some i) = text (tree_at a i)

abbrev pub height_of : {R : Type 0} → Arena R → Root → ℕ
height_of a None = 0
height_of a (Some i) = height (tree_at a i)

abbrev pub kept_of : {V R : Type 0} → Model V R → Arena R → Root → V
kept_of m a None = m.empty
kept_of m a (Some i) = from_row m (slice_index_or (map (λ r. r.row) a.records) i (m.row m.empty))

-- a root is empty, or one of the first n records
abbrev pub rooted : ℕ → Root → Bool
rooted n None = true
rooted n (Some i) = nat_lt i n
