-- What a shelf stands for, and the memory that it was brought.
use Rattle.std.specs.Prelude.{◌≡◌, ℕ, min, List, length, take, None, Option}
use Rattle.refusal.specs.declared.limits.TheConstants.{MOST_BYTES, MOST_PLACES, MOST_RECORDS}
use Rattle.monoid.specs.declared.Monoid.{Ghosts}
use Rattle.rope.specs.Memory.{arena_of}
use Rattle.rope.specs.declared.record.Record.{Record}
use Rattle.rope.specs.Arena.{Root}
use Rattle.rope.specs.declared.store.Store.{Store}
use Rattle.shelf_view.specs.State.{State, Shelved, state_of, heights_of, height_of_draft}
use Rattle.rope.specs.Held.{held}
use Rattle.rope.specs.declared.lent.Lent.{Lent}
use Rattle.text_shelf.specs.declared.shelf.Shelf.{Shelf}

-- a shelf without the facts that always hold of it
pub record Parts (V R : Type 0) (kind : Ghosts V R) : Type 0 where
  pub store : Store V R kind
  pub places : Lent Root MOST_PLACES
  pub draft : Option Root
  pub mark : ℕ
  pub opened : ℕ

abbrev pub parts : {V R : Type 0} {kind : _} → Shelf V R kind → Parts V R kind
parts s = record { store = s.store; places = s.places; draft = s.draft; mark = s.mark; opened = s.opened }

abbrev pub shelved : {V R : Type 0} {kind : _} → Parts V R kind → Shelved R
shelved s = record { arena = arena_of s.store; roots = held s.places; draft = s.draft; mark = s.mark; opened = s.opened }

-- the build text, and how much memory there is, as far as it is used; and the shelf's mark
pub record Brought : Type 0 where
  pub build : List ℕ
  pub added : ℕ
  pub records : ℕ
  pub places : ℕ
  pub mark : ℕ

abbrev pub brought : {V R : Type 0} {kind : _} → Parts V R kind → Brought
brought s = record {
  build = s.store.build.now;
  added = min (length s.store.added.memory.now) MOST_BYTES;
  records = min (length s.store.records.memory.now) MOST_RECORDS;
  places = min (length s.places.memory.now) MOST_PLACES;
  mark = s.mark;
}

-- what height and records used tell: of the documents, of the draft, and of all
pub record Measures : Type 0 where
  pub heights : List ℕ
  pub draft : ℕ
  pub used : ℕ

abbrev pub measures : {V R : Type 0} {kind : _} → Parts V R kind → Measures
measures s = record { heights = heights_of (shelved s); draft = height_of_draft (shelved s); used = s.store.records.used }

-- the list of strings that a shelf holds
abbrev pub strings : {V R : Type 0} {kind : _} → Parts V R kind → State
strings s = state_of (shelved s)

-- a fresh shelf holds the empty text alone, and all memory is as it was brought
pub record Fresh {V R : Type 0} {kind : _} (s : Parts V R kind)
    (build added : List ℕ) (records : List (Record R)) (places : List Root) (mark : ℕ) : Type 0 where
  pub build_text : s.store.build.now ≡ take MOST_BYTES build
  pub added_memory : s.store.added.memory.now ≡ added
  pub records_memory : s.store.records.memory.now ≡ records
  pub places_memory : s.places.memory.now ≡ places
  pub added_used : s.store.added.used ≡ 0
  pub used : s.store.records.used ≡ 0
  pub count : s.places.used ≡ 0
  pub draft : s.draft ≡ None
  pub mark_is : s.mark ≡ mark
  pub opened : s.opened ≡ 0
