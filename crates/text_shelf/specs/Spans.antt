-- Where the part of a document lies that an edit is about.
use Rattle.std.specs.Prelude.{◌≡◌, ℕ, ◌≤◌, length}
use Rattle.monoid.specs.Monoid.{Model}
use Rattle.rope.specs.Arena.{Root}
use Rattle.rope_read.specs.declared.text.Span.{Span}
use Rattle.shelf_view.specs.State.{Shelved, state_of, text_at}
use Rattle.shelf_view.specs.Places.{Lies}

-- p is the part a to b of document d
pub record Spans {V R : Type 0} (m : Model V R) (s : Shelved R) (d a b : ℕ) (p : Span) : Type 0 where
  pub lies : Lies m s d p.root
  pub from_is : p.from ≡ a
  pub to_is : p.to ≡ b
  pub ordered : a ≤ b
  pub within : b ≤ length (text_at (state_of s) d)

-- the part a to b of document d, and the root of document e
abbrev pub SpliceSpans : {V R : Type 0} → Model V R → Shelved R → ℕ → ℕ → ℕ → ℕ → Span × Root → Type 0
SpliceSpans m s d a b e p = Spans m s d a b p.0 × Lies m s e p.1
