-- What lent memory holds.
use Rattle.std.specs.Prelude.{◌≡◌, ℕ, ◌+◌, List, ◌++◌, length, take}
use Rattle.rope.specs.Arena.{Arena, arena}
use Rattle.rope.specs.Lents.{Fills}
use Rattle.rope.specs.declared.lent.Lent.{Lent}
use Rattle.rope.specs.declared.record.Record.{Record}
use Rattle.rope.specs.declared.view.View.{View}

-- the items that are held
abbrev pub held : {X : Type 0} {most : ℕ} → Lent X most → List X
held l = take l.used l.memory.now

-- t holds what s holds and then the items xs; what it does not hold is untouched
pub record Gains {X : Type 0} {most : ℕ} (s t : Lent X most) (xs : List X) : Type 0 where
  pub used : t.used ≡ s.used + length xs
  pub held_are : held t ≡ held s ++ xs
  pub fills : Fills s.used t.used s.memory.now t.memory.now

-- what is used of a build text, of the memory for added text and of that for records
abbrev pub arena_in : {R : Type 0} {most_bytes most_records : ℕ} → List ℕ → Lent ℕ most_bytes → Lent (Record R) most_records → Arena R
arena_in build added records = arena build (held added) (held records)

-- what slices of both texts and of records show
abbrev pub seen_in : {V R : Type 0} → View V R → Arena R
seen_in v = arena v.build.now v.added.now v.records.now
