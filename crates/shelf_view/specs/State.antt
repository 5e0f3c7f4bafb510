-- What lies on a shelf, as a list of strings, and as trees.
use Rattle.std.specs.Prelude.{ℕ, Bool, not, ◌&&◌, List, [], ◌∷◌, map, length, is_some, Option, ◌==◌, nat_le, slice_index_or}
use Rattle.std.specs.List.{between}
use Rattle.std.specs.Option.{option_map, unwrap_or}
use Rattle.monoid.specs.Monoid.{Model}
use Rattle.rope.specs.Arena.{Arena, Root, text_of, height_of, kept_of}
use Rattle.rope.specs.Memory.{seen}
use Rattle.shelf_view.specs.Documents.{root_in}
use Rattle.shelf_view.specs.declared.draft_id.DraftId.{DraftId}
use Rattle.shelf_view.specs.declared.view.View.{View}

-- what a shelf means to its callers: a text for each number from 0 on; what the draft holds while one is open; and two
-- counts that never fall, of all drafts ever opened and of the added bytes that are taken
pub record State : Type 0 where
  pub texts : List (List ℕ)
  pub draft : Option (List ℕ)
  pub opened : ℕ
  pub added : ℕ

-- the used memory with the roots of the documents from number 1 on and of the draft, and the shelf's mark
pub record Shelved (R : Type 0) : Type 0 where
  pub arena : Arena R
  pub roots : List Root
  pub draft : Option Root
  pub mark : ℕ
  pub opened : ℕ

-- the list of strings that it stands for; document 0 is the empty text
abbrev pub state_of : {R : Type 0} → Shelved R → State
state_of s = record {
  texts = [] ∷ map (text_of s.arena) s.roots;
  draft = option_map (text_of s.arena) s.draft;
  opened = s.opened;
  added = length s.arena.added;
}

-- the height of each document, and of the draft
abbrev pub heights_of : {R : Type 0} → Shelved R → List ℕ
heights_of s = 0 ∷ map (height_of s.arena) s.roots

abbrev pub height_of_draft : {R : Type 0} → Shelved R → ℕ
height_of_draft s = height_of s.arena (root_in s.draft)

-- the value kept at the top of each document, and of the draft
abbrev pub kept_values : {V R : Type 0} → Model V R → Shelved R → List V
kept_values m s = m.empty ∷ map (kept_of m s.arena) s.roots

-- document d names none
abbrev pub unknown : State → ℕ → Bool
unknown s d = nat_le (length s.texts) d

-- the text of document d
abbrev pub text_at : State → ℕ → List ℕ
text_at s d = slice_index_or s.texts d []

-- its part a to b
abbrev pub part_at : State → ℕ → ℕ → ℕ → List ℕ
part_at s d a b = between a b (text_at s d)

-- no draft is open on the shelf of this mark, or the draft's mark or count is another
abbrev pub strange : State → ℕ → DraftId → Bool
strange s mark d = not (is_some s.draft && (d.mark == mark && d.count == s.opened))

-- the text of the open draft
abbrev pub draft_text : State → List ℕ
draft_text s = unwrap_or s.draft []

-- what a view shows
abbrev pub shown : {V R : Type 0} {kind : _} → View V R kind → Shelved R
shown v = record { arena = seen v.rope; roots = v.roots.now; draft = v.draft; mark = v.mark; opened = v.opened }

-- the list of strings that a view shows
abbrev pub strings_shown : {V R : Type 0} {kind : _} → View V R kind → State
strings_shown v = state_of (shown v)
