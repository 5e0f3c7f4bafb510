-- Why each question is refused.
use Rattle.std.specs.Prelude.{ℕ, ◌+◌, ◌||◌, [], ◌∷◌, Option, nat_lt}
use Rattle.refusal.specs.Refusals.{first}
use Rattle.rope_read.specs.Texts.{bad_part}
use Rattle.shelf_view.specs.State.{State, unknown, text_at, strange}
use Rattle.shelf_view.specs.declared.draft_id.DraftId.{DraftId}
use Rattle.refusal.specs.declared.Refusal.{Refusal}
use Rattle.refusal.specs.declared.Refusal.TheVariants.{StrangeDraft, NoDocument, BadPart, SmallBuffer}

-- why a question about document d is refused
abbrev pub of_document : State → ℕ → Option Refusal
of_document s d = first ((unknown s d, NoDocument) ∷ [])

-- about the open draft
abbrev pub of_draft : State → ℕ → DraftId → Option Refusal
of_draft s mark d = first ((strange s mark d, StrangeDraft) ∷ [])

-- about the part a to b of document d
abbrev pub of_part : State → ℕ → ℕ → ℕ → Option Refusal
of_part s d a b = first ((unknown s d, NoDocument) ∷ (bad_part (text_at s d) a b, BadPart) ∷ [])

-- of a part, where a buffer of n bytes is brought and k are needed
abbrev pub of_copy : State → ℕ → ℕ → ℕ → ℕ → ℕ → Option Refusal
of_copy s d a b k n = first ((unknown s d, NoDocument) ∷ (bad_part (text_at s d) a b, BadPart) ∷ (nat_lt n k, SmallBuffer) ∷ [])

-- of n bytes from a in d and n bytes from b in e
abbrev pub of_same : State → ℕ → ℕ → ℕ → ℕ → ℕ → Option Refusal
of_same s d a e b n =
    first ((unknown s d || unknown s e, NoDocument) ∷ (bad_part (text_at s d) a (a + n) || bad_part (text_at s e) b (b + n), BadPart) ∷ [])
