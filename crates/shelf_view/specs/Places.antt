-- Where a document lies, and what its door gives.
use Rattle.std.specs.Prelude.{◌≡◌, ℕ, true, ◌∷◌, None, slice_index_or}
use Rattle.monoid.specs.Monoid.{Model}
use Rattle.rope.specs.Arena.{Root, text_of, height_of, kept_of}
use Rattle.rope.specs.Memory.{seen}
use Rattle.rope_read.specs.Texts.{bytes_in}
use Rattle.rope_read.specs.declared.text.Text.{Text}
use Rattle.rope_read.specs.declared.whole.Whole.{Whole}
use Rattle.shelf_view.specs.Documents.{fine, root_in}
use Rattle.shelf_view.specs.State.{Shelved, state_of, heights_of, kept_values, text_at, part_at, draft_text}

-- p is the root of document d; document 0 has none. So text, height and kept value of p are the document's.
pub record Lies {V R : Type 0} (m : Model V R) (s : Shelved R) (d : ℕ) (p : Root) : Type 0 where
  pub is : p ≡ slice_index_or (None ∷ s.roots) d None
  pub fine_root : fine s.arena p ≡ true
  pub text_is : text_at (state_of s) d ≡ text_of s.arena p
  pub high : slice_index_or (heights_of s) d 0 ≡ height_of s.arena p
  pub kept : slice_index_or (kept_values m s) d m.empty ≡ kept_of m s.arena p

-- w is document d, whole: its text, its height and the value that it keeps are the document's
pub record IsDocument {V R : Type 0} {kind : _} (m : Model V R) (s : Shelved R) (d : ℕ) (w : Whole V R kind) : Type 0 where
  pub memory : seen w.view ≡ s.arena
  pub lies : Lies m s d w.root

-- p is the root of the open draft
pub record Drafts {V R : Type 0} (m : Model V R) (s : Shelved R) (p : Root) : Type 0 where
  pub fine_root : fine s.arena p ≡ true
  pub is : p ≡ root_in s.draft
  pub text_is : draft_text (state_of s) ≡ text_of s.arena p

-- w is the open draft, whole
pub record IsDraft {V R : Type 0} {kind : _} (m : Model V R) (s : Shelved R) (w : Whole V R kind) : Type 0 where
  pub memory : seen w.view ≡ s.arena
  pub drafts : Drafts m s w.root

-- t is the part a to b of document d: it lies there, and has the bytes between
pub record IsPart {V R : Type 0} {kind : _} (m : Model V R) (s : Shelved R) (d a b : ℕ) (t : Text V R kind) : Type 0 where
  pub memory : seen t.view ≡ s.arena
  pub lies : Lies m s d t.root
  pub from_is : t.from ≡ a
  pub to_is : t.to ≡ b
  pub text_is : bytes_in t ≡ part_at (state_of s) d a b
