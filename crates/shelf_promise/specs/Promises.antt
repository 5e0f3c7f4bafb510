-- What is told of shelves that were reached from fresh ones by any lists of calls, over any memory and mark.
use Rattle.std.specs.Prelude.{◌≡◌, ℕ, ◌||◌, List, [], ◌∷◌, Result}
use Rattle.monoid.specs.Monoid.{Model, fold_of}
use Rattle.monoid.specs.declared.line_column.LineColumn.{LineColumn}
use Rattle.monoid.specs.declared.pair.Pair.{Pair}
use Rattle.zemor.specs.Slips.{Slip, Exactly}
use Rattle.zemor.specs.declared.matrix.Entries.{Entries}
use Rattle.zemor.specs.declared.matrix.Sl2.{Sl2}
use Rattle.shelf_view.specs.Marked.{marked, fingerprint, ReadsBackIn}
use Rattle.shelf_view.specs.Questions.{of_document, of_part}
use Rattle.refusal.specs.Refusals.{Answers, first}
use Rattle.shelf_view.specs.State.{State, unknown, text_at, part_at}
use Rattle.refusal.specs.declared.Refusal.{Refusal}
use Rattle.refusal.specs.declared.Refusal.TheVariants.{NoDocument}
use Rattle.text_shelf.specs.Shelves.{Brought}
use Rattle.text_shelf.specs.Rules.{Rules}
use Rattle.text_shelf.specs.Calls.{every_shelf}
use Rattle.text_shelf.specs.Reaches.{Reached}
use Rattle.text_shelf.specs.declared.call.Answer.{Answer}
use Rattle.text_shelf.specs.declared.shelf.Shelf.{Shelf}
use Rattle.shelf_promise.specs.Lists.{after, nothing, Kept}
use Rattle.shelf_promise.specs.declared.promise.Asked.{Asked}
use Rattle.shelf_promise.specs.declared.promise.Replies.{Replies}

-- P holds of what the list of strings makes of any list of calls by which the shelf was reached
abbrev pub HoldsAfter : {C : Type 0} → Rules C → {V R : Type 0} {kind : _} → Shelf V R kind → (State → Type 0) → Type 0
HoldsAfter {C} r shelf P =
    (b : Brought) (calls : List C) (answers : List (Result Answer Refusal)) → Reached r b calls answers shelf
    → P (after r b.build nothing calls answers)

-- and all that is promised of that list
abbrev pub KeptAfter : {C : Type 0} → Rules C → {V R : Type 0} {kind : _} → Model V R → Shelf V R kind → (State → Type 0) → Type 0
KeptAfter {C} r m shelf P =
    (b : Brought) (calls : List C) (answers : List (Result Answer Refusal)) (h : Reached r b calls answers shelf)
    → Kept m h × P (after r b.build nothing calls answers)

-- the summary told of a document is the fold of its bytes
abbrev pub DocumentFolds : {V R : Type 0} → Model V R → ℕ → Result V Refusal → State → Type 0
DocumentFolds m d r s = Answers (of_document s d) (λ v. v ≡ fold_of m (text_at s d)) r

-- the summary told of a part is the fold of its bytes
abbrev pub PartFolds : {V R : Type 0} → Model V R → ℕ → ℕ → ℕ → Result V Refusal → State → Type 0
PartFolds m d a b r s = Answers (of_part s d a b) (λ v. v ≡ fold_of m (part_at s d a b)) r

-- document d of one marked shelf and document e of the other: their fingerprints are told, and with no more than a slip
-- between the texts, the same fingerprint means the same text, and the other way round
abbrev pub SlipsTold : ℕ → ℕ → Result (Sl2 × Sl2) Refusal → State → State → Type 0
SlipsTold d e r s t =
    Answers (first ((unknown s d || unknown t e, NoDocument) ∷ []))
    (λ x.
    (x.0 ≡ fingerprint (text_at s d)) × (x.1 ≡ fingerprint (text_at t e))
    × (Slip (text_at s d) (text_at t e) → Exactly (x.0 ≡ x.1) (text_at s d ≡ text_at t e))) r

-- THE PROMISE, whole: of a shelf over any monoid, and of two marked shelves that may be one. Each was reached by any list of
-- calls; each call of it is refused exactly where a numbered reason holds; documents, draft and counts are those of the list
-- of strings; summaries of documents and of parts are folds; slips always show; and read-back is exact.
pub record Promise {V R : Type 0} {kind : _} (m : Model V R) (shelf : Shelf V R kind)
    {marks : _} (one : Shelf (Pair Sl2 LineColumn) (Pair Entries LineColumn) marks)
    {others : _} (other : Shelf (Pair Sl2 LineColumn) (Pair Entries LineColumn) others)
    (q : Asked) (digits old new : List ℕ) (replies : Replies V) : Type 0 where
  pub summaries : KeptAfter every_shelf m shelf (λ s.
      DocumentFolds m q.part.document replies.summary s × PartFolds m q.part.document q.part.from q.part.to replies.part s)
  pub slips : KeptAfter every_shelf marked one (λ s. KeptAfter every_shelf marked other (λ t.
      SlipsTold q.window.document q.other replies.fingerprints s t))
  pub window : KeptAfter every_shelf marked one (λ s.
      ReadsBackIn s q.window.document q.window.from q.window.to digits old new replies.window)
