-- What a call does to a shelf.
use Rattle.std.specs.Prelude.{◌≡◌, ℕ, ◌+◌, ◌<◌, ◌≤◌, List, ◌++◌, length, Some, None, Ok, Err, Option, Result, slice_index}
use Rattle.std.specs.Result.{result_map_both}
use Rattle.rope.specs.Lents.{Fills}
use Rattle.refusal.specs.declared.Refusal.{Refusal}
use Rattle.text_shelf.specs.Shelves.{Parts, parts, shelved, brought, measures, strings}
use Rattle.text_shelf.specs.Rules.{Rules, reason}
use Rattle.text_shelf.specs.Calls.{every_shelf}
use Rattle.text_shelf.specs.declared.call.Call.{Call}
use Rattle.text_shelf.specs.declared.call.Answer.{Answer}
use Rattle.text_shelf.specs.declared.call.Answer.TheVariants.{Made, Opened, Done}
use Rattle.text_shelf.specs.declared.draft.Draft.{Draft}
use Rattle.text_shelf.specs.declared.shelf.Shelf.{Shelf}

-- from s to t: what was used stays, and what is not used now is as it was
pub record Spares {V R : Type 0} {kind : _} (s t : Parts V R kind) : Type 0 where
  pub added : Fills s.store.added.used t.store.added.used s.store.added.memory.now t.store.added.memory.now
  pub records : Fills s.store.records.used t.store.records.used s.store.records.memory.now t.store.records.memory.now
  pub places : Fills s.places.used t.places.used s.places.memory.now t.places.memory.now

-- what is brought, used and told after a change from s to t that may take n records and writes bs behind the added text
pub record Changed {V R : Type 0} {kind : _} (s t : Parts V R kind) (bs : List ℕ) (n : ℕ) : Type 0 where
  pub same_brought : brought t ≡ brought s
  pub cost : t.store.records.used ≤ s.store.records.used + n
  pub added_text : (shelved t).arena.added ≡ (shelved s).arena.added ++ bs
  pub spares : Spares s t
  -- every document keeps its height
  pub heights : (d : ℕ) → d < length (strings s).texts → slice_index (measures t).heights d ≡ slice_index (measures s).heights d

-- what an accepted call answers and does to a shelf, which it leaves with these parts
abbrev pub Does : {C : Type 0} → Rules C → {V R : Type 0} {kind : _} → Shelf V R kind → C → Result Answer Refusal → Parts V R kind → Type 0
Does r s call a t =
    (a ≡ Ok (r.answer s.mark (strings (parts s)) call))
    × (strings t ≡ r.accepted s.store.build.now call (strings (parts s)))
    × (Changed (parts s) t (r.brings call) (r.need (measures (parts s)) call)
    × r.height_rule call (measures (parts s)) (measures t))

-- what a call does, by the reason to refuse it: it answers that refusal, and the whole shelf with all its memory is as
-- it was; or, where there is none, it answers and leaves what the list of strings says
abbrev pub Stepped : {C : Type 0} → Rules C → {V R : Type 0} {kind : _}
    → Option Refusal → Shelf V R kind → C → Result Answer Refusal → Shelf V R kind → Type 0
Stepped r (Some e) s call a t = (a ≡ Err e) × (t ≡ s)
Stepped r None s call a t = Does r s call a (parts t)

-- the first reason to refuse a call on this very shelf
abbrev pub reason_on : {C : Type 0} → Rules C → {V R : Type 0} {kind : _} → Shelf V R kind → C → Option Refusal
reason_on r s call = reason r (brought (parts s)) (measures (parts s)) (strings (parts s)) call

-- what a call of an alphabet does to the shelf s, which it leaves as t
abbrev pub StepsBy : {C : Type 0} → Rules C → {V R : Type 0} {kind : _} → Shelf V R kind → C → Result Answer Refusal → Shelf V R kind → Type 0
StepsBy r s call a t = Stepped r (reason_on r s call) s call a t

-- and a call of every shelf
abbrev pub Steps : {V R : Type 0} {kind : _} → Shelf V R kind → Call → Result Answer Refusal → Shelf V R kind → Type 0
Steps s call a t = StepsBy every_shelf s call a t

-- what the public calls answer, as answers of a call
abbrev pub made : Result ℕ Refusal → Result Answer Refusal
made r = result_map_both Made (λ e. e) r

abbrev pub done : Result (Unit {0}) Refusal → Result Answer Refusal
done r = result_map_both (λ u. Done) (λ e. e) r

abbrev pub started : Result Draft Refusal → Result Answer Refusal
started r = result_map_both (λ d. Opened d.id) (λ e. e) r

-- of a seal or a give-up that is refused, the reason alone; the draft that comes back with it is named below
abbrev pub sealed : Result ℕ (Refusal × Draft) → Result Answer Refusal
sealed r = result_map_both Made (λ e. e.0) r

abbrev pub ended : Result (Unit {0}) (Refusal × Draft) → Result Answer Refusal
ended r = result_map_both (λ u. Done) (λ e. e.0) r

abbrev pub Back : {T : Type 0} → Draft → Result T (Refusal × Draft) → Type 0
Back d (Ok x) = Unit {0}
Back d (Err (e, back)) = back ≡ d
