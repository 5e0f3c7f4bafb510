-- The calls that change a shelf: what each makes of the list of strings, what it needs, what becomes of heights,
-- and why it is refused.
use Rattle.std.specs.Prelude.{◌≡◌, ℕ, ◌+◌, ◌-◌, ◌≤◌, max, Bool, ◌||◌, List, [], ◌∷◌, ◌++◌, length, is_some, Some, None, Option, nat_le, nat_lt, slice_index}
use Rattle.std.specs.List.{between}
use Rattle.rope.specs.Edits.{spliced}
use Rattle.rope.specs.Steps.{Low}
use Rattle.rope_cut.specs.Parts.{edit_need}
use Rattle.rope_keep.specs.Kept.{text_need, add_need}
use Rattle.refusal.specs.declared.limits.TheConstants.{MOST_BROUGHT, MOST_DRAFTS, MOST_TEXT}
use Rattle.refusal.specs.Refusals.{Reasons}
use Rattle.rope_read.specs.Texts.{bad_part}
use Rattle.shelf_view.specs.State.{State, unknown, text_at, part_at, strange, draft_text}
use Rattle.refusal.specs.declared.Refusal.TheVariants.{StrangeDraft, DraftOpen, NoDocument, BadPart, TooLong, TextFull, RecordsShort, NumbersSpent}
use Rattle.text_shelf.specs.Shelves.{Brought, Measures}
use Rattle.text_shelf.specs.Rules.{Rules}
use Rattle.text_shelf.specs.declared.call.Call.{Call}
use Rattle.text_shelf.specs.declared.call.Call.TheVariants.{Put, Take, Cut, Splice, Open, Add, Seal, GiveUp}
use Rattle.text_shelf.specs.declared.call.Answer.{Answer}
use Rattle.text_shelf.specs.declared.call.Answer.TheVariants.{Made, Opened, Done}

-- THE LIST OF STRINGS

-- one text more, with n added bytes more
abbrev pub appended : State → List ℕ → ℕ → State
appended s text n = record { texts = s.texts ++ (text ∷ []); draft = s.draft; opened = s.opened; added = s.added + n }

abbrev pub with_draft : State → Option (List ℕ) → State
with_draft s d = record { texts = s.texts; draft = d; opened = s.opened; added = s.added }

-- what an accepted call makes of the list of strings
abbrev pub accepted : List ℕ → Call → State → State
accepted build (Put text) s = appended s text.now (length text.now)
accepted build (Take a b) s = appended s (between a b build) 0
accepted build (Cut d a b) s = appended s (part_at s d a b) 0
accepted build (Splice d a b e) s = appended s (spliced (text_at s d) a b (text_at s e)) 0
accepted build Open s = record { texts = s.texts; draft = Some []; opened = s.opened + 1; added = s.added }
accepted build (Add d text) s =
    record { texts = s.texts; draft = Some (draft_text s ++ text.now); opened = s.opened; added = s.added + length text.now }
accepted build (Seal d) s = with_draft (appended s (draft_text s) 0) None
accepted build (GiveUp d) s = with_draft s None

-- what an accepted call answers: the number of the text that it appends, or the draft that it starts
abbrev pub answer : ℕ → State → Call → Answer
answer mark s (Put text) = Made (length s.texts)
answer mark s (Take a b) = Made (length s.texts)
answer mark s (Cut d a b) = Made (length s.texts)
answer mark s (Splice d a b e) = Made (length s.texts)
answer mark s Open = Opened (record { mark = mark; count = s.opened + 1 })
answer mark s (Add d text) = Done
answer mark s (Seal d) = Made (length s.texts)
answer mark s (GiveUp d) = Done

-- NEEDS

-- in records: 2 × ⌈n / 64⌉ for a new text of n bytes, 32 × (h + 1) for an edit of texts at most h high, and both for
-- n bytes behind a draft that is h high
abbrev pub need : Measures → Call → ℕ
need t (Put text) = text_need (length text.now)
need t (Take a b) = text_need (b - a)
need t (Cut d a b) = edit_need (slice_index t.heights d)
need t (Splice d a b e) = edit_need (max (slice_index t.heights d) (slice_index t.heights e))
need t Open = 0
need t (Add d text) = add_need t.draft (length text.now)
need t (Seal d) = 0
need t (GiveUp d) = 0

-- TEXT BROUGHT

-- the text that a call brings, which is written behind the added text
abbrev pub brings : Call → List ℕ
brings (Put text) = text.now
brings (Take a b) = []
brings (Cut d a b) = []
brings (Splice d a b e) = []
brings Open = []
brings (Add d text) = text.now
brings (Seal d) = []
brings (GiveUp d) = []

-- HEIGHTS

-- the height told of the document that a call has made: the first number that was not given before
abbrev pub new_height : Measures → Measures → ℕ
new_height t u = slice_index u.heights (length t.heights)

-- What is told before a call, t, and after it, u. A new text is as low as its leaves allow, a part no higher than its document,
-- a splice at most two higher than the higher of both, and a sealed draft as high as it was. A call that is about no draft
-- leaves the draft's height; a draft that was just opened is not high, and where one has ended there is none. Add joins a
-- text of at most 4,096 bytes, which is at most 6 high, and two texts joined are as high as the higher of them or one higher.
abbrev pub HeightRule : Call → Measures → Measures → Type 0
HeightRule (Put text) t u = (u.draft ≡ t.draft) × Low (length text.now) (new_height t u)
HeightRule (Take a b) t u = (u.draft ≡ t.draft) × Low (b - a) (new_height t u)
HeightRule (Cut d a b) t u = (u.draft ≡ t.draft) × (new_height t u ≤ slice_index t.heights d)
HeightRule (Splice d a b e) t u =
    (u.draft ≡ t.draft) × (new_height t u ≤ max (slice_index t.heights d) (slice_index t.heights e) + 2)
HeightRule Open t u = u.draft ≡ 0
HeightRule (Add d text) t u = (t.draft ≤ u.draft) × (u.draft ≤ max t.draft 6 + 1)
HeightRule (Seal d) t u = (u.draft ≡ 0) × (new_height t u ≡ t.draft)
HeightRule (GiveUp d) t u = u.draft ≡ 0

-- REFUSALS

-- n added bytes more exceed the memory
abbrev pub text_full : Brought → State → ℕ → Bool
text_full b s n = nat_lt b.added (s.added + n)

-- fewer than n records are free
abbrev pub records_short : Brought → Measures → ℕ → Bool
records_short b t n = nat_lt (b.records - t.used) n

-- every place is taken; document 0 takes none
abbrev pub numbers_spent : Brought → State → Bool
numbers_spent b s = nat_lt b.places (length s.texts)

-- reasons, by what was brought, what the shelf tells, and the list of strings
abbrev pub Because : Type 0
Because = Brought → Measures → State → Reasons

-- where n added bytes more are asked for, n records more, and a document more
abbrev pub bytes : ℕ → Because
bytes n b t s = (text_full b s n, TextFull) ∷ []

abbrev pub records : ℕ → Because
records n b t s = (records_short b t n, RecordsShort) ∷ []

abbrev pub place : Because
place b t s = (numbers_spent b s, NumbersSpent) ∷ []

-- where one document more is asked for that may take k records
abbrev pub memory : ℕ → Because
memory k b t s = records k b t s ++ place b t s

-- where one document more, of n bytes, is asked for that may take k records
abbrev pub new_document : ℕ → ℕ → Because
new_document n k b t s = (nat_lt MOST_TEXT n, TooLong) ∷ memory k b t s

-- where n bytes are to be added behind a draft of len bytes that is high high
abbrev pub longer : ℕ → ℕ → ℕ → Because
longer n len high b t s = (nat_lt MOST_BROUGHT n || nat_lt MOST_TEXT (len + n), TooLong) ∷ (bytes n b t s ++ records (add_need high n) b t s)

-- the reasons for which a call may be refused, in the order in which they are tested
abbrev pub reasons : Brought → Measures → State → Call → Reasons
reasons b t s (Put text) = (nat_lt MOST_BROUGHT (length text.now), TooLong) ∷ (bytes (length text.now) b t s ++ memory (need t (Put text)) b t s)
reasons b t s (Take x y) = (bad_part b.build x y, BadPart) ∷ new_document (y - x) (need t (Take x y)) b t s
reasons b t s (Cut d x y) = (unknown s d, NoDocument) ∷ (bad_part (text_at s d) x y, BadPart) ∷ memory (need t (Cut d x y)) b t s
reasons b t s (Splice d x y e) =
    (unknown s d || unknown s e, NoDocument)
    ∷ (bad_part (text_at s d) x y, BadPart)
    ∷ new_document (length (spliced (text_at s d) x y (text_at s e))) (need t (Splice d x y e)) b t s
reasons b t s Open = (is_some s.draft || nat_le MOST_DRAFTS s.opened, DraftOpen) ∷ []
reasons b t s (Add d text) = (strange s b.mark d, StrangeDraft) ∷ longer (length text.now) (length (draft_text s)) t.draft b t s
reasons b t s (Seal d) = (strange s b.mark d, StrangeDraft) ∷ place b t s
reasons b t s (GiveUp d) = (strange s b.mark d, StrangeDraft) ∷ []

-- the rules of the calls of every shelf
abbrev pub every_shelf : Rules Call
every_shelf = record { reasons = reasons; accepted = accepted; answer = answer; need = need; brings = brings; height_rule = HeightRule }
