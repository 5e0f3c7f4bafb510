-- The calls of the example, made one by one.
use Rattle.std.specs.Prelude.{◌≡◌, ℕ, List, [], ◌∷◌, Ok, Err, Result}
use Rattle.std.specs.Borrow.{Bor}
use Rattle.shelf_view.specs.declared.draft_id.DraftId.{DraftId}
use Rattle.refusal.specs.declared.Refusal.{Refusal}
use Rattle.text_shelf.specs.Shelves.{Brought}
use Rattle.text_shelf.specs.Calls.{every_shelf}
use Rattle.text_shelf.specs.Reaches.{Reached}
use Rattle.text_shelf.specs.Steps.{made, done, sealed}
use Rattle.text_shelf.specs.declared.draft.Draft.{Draft}
use Rattle.text_shelf.specs.declared.call.Call.{Call}
use Rattle.text_shelf.specs.declared.call.Call.TheVariants.{Open, Add, Put, Cut, Seal}
use Rattle.text_shelf.specs.declared.call.Answer.{Answer}
use Rattle.text_shelf.specs.declared.call.Answer.TheVariants.{Opened}
use Rattle.shelf_promise.specs.declared.by_hand.Made.{Made}

-- in the order in which they are made
abbrev pub calls_made : DraftId → Bor (List ℕ) → List Call
calls_made d text = Open ∷ (Add d text ∷ (Put text ∷ (Cut 4294967295 0 0 ∷ (Seal d ∷ []))))

abbrev pub answers_given : {V R : Type 0} {kind : _} → Made V R kind → List (Result Answer Refusal)
answers_given h = Ok (Opened h.opened) ∷ (done h.added ∷ (made h.put ∷ (made h.cut ∷ (sealed h.sealed ∷ []))))

-- the shelf is one that just these calls have reached, with these answers, over this memory
abbrev pub ReachedBy : {V R : Type 0} {kind : _} → Brought → Bor (List ℕ) → Made V R kind → Type 0
ReachedBy b text h = Reached every_shelf b (calls_made h.opened text) (answers_given h) h.shelf

-- a draft that a refused seal hands back is the one of this name
abbrev pub IsOwn : DraftId → Result ℕ (Refusal × Draft) → Type 0
IsOwn d (Ok n) = Unit {0}
IsOwn d (Err (why, back)) = back.id ≡ d
