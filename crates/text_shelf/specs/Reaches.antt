-- Shelves that lists of calls have reached, from a fresh one on.
use Rattle.std.specs.Prelude.{◌≡◌, ℕ, min, List, [], ◌∷◌, ◌++◌, length, take, drop, Ok, Err, Option, Result}
use Rattle.std.specs.Option.{option_map}
use Rattle.refusal.specs.declared.limits.TheConstants.{MOST_BYTES, MOST_PLACES, MOST_RECORDS}
use Rattle.rope.specs.Arena.{Root}
use Rattle.rope.specs.Lents.{Fills}
use Rattle.rope.specs.declared.record.Record.{Record}
use Rattle.refusal.specs.declared.Refusal.{Refusal}
use Rattle.refusal.specs.declared.Refusal.TheVariants.{StrangeDraft}
use Rattle.text_shelf.specs.Rules.{Rules}
use Rattle.text_shelf.specs.Shelves.{Parts, Brought, Fresh, parts}
use Rattle.text_shelf.specs.Steps.{StepsBy, Spares}
use Rattle.text_shelf.specs.declared.call.Answer.{Answer}
use Rattle.text_shelf.specs.declared.draft.Draft.{Draft}
use Rattle.text_shelf.specs.declared.replay.Outcome.{Outcome}
use Rattle.text_shelf.specs.declared.replay.Resumption.{Resumption}
use Rattle.text_shelf.specs.declared.shelf.Shelf.{Shelf}

-- the memory that is used of what was brought
abbrev pub used_of : {R : Type 0} → List ℕ → List ℕ → List (Record R) → List Root → ℕ → Brought
used_of build added records places mark = record {
  build = take MOST_BYTES build;
  added = min (length added) MOST_BYTES;
  records = min (length records) MOST_RECORDS;
  places = min (length places) MOST_PLACES;
  mark = mark;
}

-- The shelf s was reached by these calls with these answers, over this memory: it is a fresh one, as `Shelf::new` gives it;
-- or one call more was made on a shelf that was reached, and did to that very shelf what the public call of its name does.
pub data Reached {C : Type 0} (r : Rules C) {V R : Type 0} {kind : _} (b : Brought) :
    List C → List (Result Answer Refusal) → Shelf V R kind → Type 0 where
  fresh : {s : Shelf V R kind} {build added : List ℕ} {records : List (Record R)} {places : List Root} {mark : ℕ}
      → Fresh (parts s) build added records places mark → used_of build added records places mark ≡ b → Reached r b [] [] s
  called : {cs : List C} {xs : List (Result Answer Refusal)} {s t : Shelf V R kind}
      → Reached r b cs xs s → (c : C) (a : Result Answer Refusal) → StepsBy r s c a t → Reached r b (cs ++ (c ∷ [])) (xs ++ (a ∷ [])) t

-- these calls with these answers, made one behind the other on the shelf s itself, leave the shelf t
pub data Went {C : Type 0} (r : Rules C) {V R : Type 0} {kind : _} (s : Shelf V R kind) :
    List C → List (Result Answer Refusal) → Shelf V R kind → Type 0 where
  start : Went r s [] [] s
  one_more : {cs : List C} {xs : List (Result Answer Refusal)} {t u : Shelf V R kind} → Went r s cs xs t
      → (c : C) (a : Result Answer Refusal) → StepsBy r t c a u → Went r s (cs ++ (c ∷ [])) (xs ++ (a ∷ [])) u

-- so they go behind all that s was reached by
abbrev pub More : {C : Type 0} → Rules C → {V R : Type 0} {kind : _}
    → Shelf V R kind → List C → List (Result Answer Refusal) → Shelf V R kind → Type 0
More {C} r s calls answers t =
    (b : Brought) (cs : List C) (xs : List (Result Answer Refusal)) → Reached r b cs xs s → Reached r b (cs ++ calls) (xs ++ answers) t

-- of the lent memory, what is not used is as it was brought
pub record Untouched {V R : Type 0} {kind : _} (s : Parts V R kind)
    (added : List ℕ) (records : List (Record R)) (places : List Root) : Type 0 where
  pub added_memory : Fills 0 s.store.added.used added s.store.added.memory.now
  pub records_memory : Fills 0 s.store.records.used records s.store.records.memory.now
  pub places_memory : Fills 0 s.places.used places s.places.memory.now

-- the token of the draft that is open on a shelf, or none
abbrev pub token : {V R : Type 0} {kind : _} → Shelf V R kind → Option Draft
token s = option_map (λ root. record { id = record { mark = s.mark; count = s.opened } }) s.draft

-- the first n calls are run on s one behind the other, n being as many as there are places for answers; the answer of each
-- stands at its place, and what lies behind keeps its content
pub record RunInOrder {C : Type 0} (r : Rules C) {V R : Type 0} {kind : _} (s t : Shelf V R kind)
    (calls : List C) (n : ℕ) (old new : List (Result Answer Refusal)) : Type 0 where
  pub count : n ≡ min (length calls) (length old)
  pub went : Went r s (take n calls) (take n new) t
  pub reaches : More r s (take n calls) (take n new) t
  pub behind : drop n new ≡ drop n old
  pub spares : Spares (parts s) (parts t)

-- what a replay gives: the shelf that was reached by these calls, on a fresh one over this memory, and the token of its draft
pub record Replayed {C : Type 0} (r : Rules C) {V R : Type 0} {kind : _}
    (build added : List ℕ) (records : List (Record R)) (places : List Root) (mark : ℕ)
    (calls : List C) (old new : List (Result Answer Refusal)) (p : Outcome V R kind) : Type 0 where
  pub count : p.calls ≡ min (length calls) (length old)
  pub reached : Reached r (used_of build added records places mark) (take p.calls calls) (take p.calls new) p.shelf
  pub behind : drop p.calls new ≡ drop p.calls old
  pub untouched : Untouched (parts p.shelf) added records places
  pub draft : p.draft ≡ token p.shelf

-- what a resumption gives: the calls go behind all that the shelf was reached by, and the token of its draft is given; or,
-- where the draft that is brought is not the shelf's, nothing is done, and it is handed back
abbrev pub Resumed : {C : Type 0} → Rules C → {V R : Type 0} {kind : _}
    → Shelf V R kind → Option Draft → List C → List (Result Answer Refusal)
    → Shelf V R kind → List (Result Answer Refusal) → Result Resumption (Refusal × Option Draft) → Type 0
Resumed r s draft calls old t new (Ok p) = (draft ≡ token s) × RunInOrder r s t calls p.calls old new × (p.draft ≡ token t)
Resumed r s draft calls old t new (Err (e, back)) = ¬ (draft ≡ token s) × (e ≡ StrangeDraft) × (back ≡ draft) × (t ≡ s) × (new ≡ old)
