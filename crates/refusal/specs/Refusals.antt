-- The numbered refusals, and which of them a call answers.
use Rattle.std.specs.Prelude.{◌≡◌, ℕ, Bool, cond, List, [], ◌∷◌, Some, None, Ok, Err, Option, Result}
use Rattle.refusal.specs.declared.Refusal.{Refusal}
use Rattle.refusal.specs.declared.Refusal.TheVariants.{BadNetstring, BadCall, StrangeDraft, DraftOpen, NoDocument, BadPart, TooLong, SmallBuffer, BadFingerprint, NoWindow, TextFull, RecordsShort, NumbersSpent}

abbrev pub number_of : Refusal → ℕ
number_of BadNetstring = 1
number_of BadCall = 2
number_of StrangeDraft = 3
number_of DraftOpen = 4
number_of NoDocument = 5
number_of BadPart = 6
number_of TooLong = 7
number_of SmallBuffer = 8
number_of BadFingerprint = 9
number_of NoWindow = 10
number_of TextFull = 11
number_of RecordsShort = 12
number_of NumbersSpent = 13

-- conditions with the refusals that they are for, in the order in which they are tested
abbrev pub Reasons : Type 0
Reasons = List (Bool × Refusal)

-- the first refusal whose condition holds, or none
abbrev pub first : Reasons → Option Refusal
first [] = None
first (r ∷ rs) = cond r.0 (Some r.1) (first rs)

-- a call is refused exactly where there is a reason, with that reason; otherwise P holds of its answer
abbrev pub Answers : {T : Type 0} → Option Refusal → (T → Type 0) → Result T Refusal → Type 0
Answers why P (Ok x) = (why ≡ None) × P x
Answers why P (Err e) = why ≡ Some e
