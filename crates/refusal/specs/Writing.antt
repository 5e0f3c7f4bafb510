-- Answers that are written into a buffer.
use Rattle.std.specs.Prelude.{◌≡◌, ℕ, ◌≤◌, List, [], ◌∷◌, ◌++◌, length, drop, None, Some, Ok, Err, Option, Result, nat_lt}
use Rattle.refusal.specs.Refusals.{first}
use Rattle.refusal.specs.declared.Refusal.{Refusal}
use Rattle.refusal.specs.declared.Refusal.TheVariants.{SmallBuffer}

-- the n bytes w stand at the start of a buffer, and what lies behind keeps its bytes
abbrev pub Stands : List ℕ → List ℕ → ℕ → List ℕ → Type 0
Stands w old n new = (n ≡ length w) × (n ≤ length old) × (new ≡ w ++ drop n old)

-- an answer that is written: w stands at the buffer's start, and its length is answered; a refusal leaves the buffer as it was
abbrev pub Writes : Option Refusal → List ℕ → List ℕ → List ℕ → Result ℕ Refusal → Type 0
Writes why w old new (Ok n) = (why ≡ None) × Stands w old n new
Writes why w old new (Err e) = (why ≡ Some e) × (new ≡ old)

-- why k bytes are not written into a buffer of n: it is shorter
abbrev pub of_room : ℕ → ℕ → Option Refusal
of_room k n = first ((nat_lt n k, SmallBuffer) ∷ [])
