-- What the calls from C answer.
use Rattle.std.specs.Prelude.{◌≡◌, ℕ, ◌+◌, ◌<◌, List, [], ◌∷◌, ◌⊎◌, length, Some, None, Ok, Err, Option, Result, nat_lt}
use Rattle.rope.specs.Arena.{Root}
use Rattle.rope.specs.declared.record.Record.{Record}
use Rattle.refusal.specs.Refusals.{number_of, first}
use Rattle.refusal.specs.Writing.{Stands}
use Rattle.rope_read.specs.Texts.{bad_part}
use Rattle.refusal.specs.declared.Refusal.{Refusal}
use Rattle.refusal.specs.declared.Refusal.TheVariants.{BadPart, TooLong, SmallBuffer}
use Rattle.text_shelf.specs.Shelves.{parts, Fresh}
use Rattle.text_shelf.specs.declared.shelf.Shelf.{Shelf}
use Rattle.script.specs.Answers.{TurnsIn}
use Rattle.script.specs.declared.run.Answered.{Answered}
use Rattle.vault.specs.declared.answer.VaultAnswer.{VaultAnswer}
use Rattle.vault.specs.declared.answer.VaultRun.{VaultRun}
use Rattle.vault.specs.declared.calls.Desk.{Desk}
use Rattle.script.specs.declared.limits.TheConstants.{MOST_ANSWER, MOST_SCRIPT, ADDED, RECORDS, PLACES}

-- NUMBERS

-- a length behind the number 0, or a refusal's number
abbrev pub numbered : Result ℕ Refusal → VaultAnswer
numbered (Ok n) = record { refusal = 0; len = n }
numbered (Err e) = record { refusal = number_of e; len = 0 }

abbrev pub run_numbered : Result Answered Refusal → VaultRun
run_numbered (Ok r) = record { refusal = 0; len = r.len; next = r.next }
run_numbered (Err e) = record { refusal = number_of e; len = 0; next = 0 }

-- P holds of what is told in numbers
abbrev pub Crosses : (Result ℕ Refusal → Type 0) → VaultAnswer → Type 0
Crosses P a = (r : Result ℕ Refusal) × (P r × (a ≡ numbered r))

abbrev pub RunCrosses : (Result Answered Refusal → Type 0) → VaultRun → Type 0
RunCrosses P a = (r : Result Answered Refusal) × (P r × (a ≡ run_numbered r))

-- REFUSALS

-- reading back what lies from a to b in a text, into a buffer of n bytes
abbrev pub of_read_back : List ℕ → ℕ → ℕ → ℕ → Option Refusal
of_read_back text a b n = first ((bad_part text a b, BadPart) ∷ (nat_lt n 5, SmallBuffer) ∷ [])

-- a script is run into a buffer of n bytes
abbrev pub of_script : List ℕ → ℕ → Option Refusal
of_script script n = first ((nat_lt MOST_SCRIPT (length script), TooLong) ∷ (nat_lt n MOST_ANSWER, SmallBuffer) ∷ [])

-- SCRIPTS

-- a fresh shelf with so many added bytes, records and places, an empty build text and the mark 0
pub record Starts {V R : Type 0} {kind : _} (s : Shelf V R kind) : Type 0 where
  pub added : List ℕ
  pub records : List (Record R)
  pub places : List Root
  pub fresh : Fresh (parts s) [] added records places 0
  pub added_bytes : length added ≡ ADDED
  pub free_records : length records ≡ RECORDS
  pub free_places : length places ≡ PLACES

-- turns on such a shelf up to the script's end, or until fewer than MOST_ANSWER bytes are left, and none beyond; all their
-- answers stand at the buffer's start, with their length and the place behind the last command
pub record RanFresh (script old new : List ℕ) (r : Answered) : Type 0 where
  pub fresh : Desk
  pub left : Desk
  pub answers : List ℕ
  pub starts : Starts fresh.shelf
  pub turns : TurnsIn (length old) script 0 fresh.shelf answers r.next left.shelf
  pub ends : (r.next ≡ length script) ⊎ (length old < r.len + MOST_ANSWER)
  pub written : Stands answers old r.len new

-- or a refusal, which leaves the buffer as it was
abbrev pub Runs : List ℕ → List ℕ → List ℕ → Result Answered Refusal → Type 0
Runs script old new (Ok r) = (of_script script (length old) ≡ None) × RanFresh script old new r
Runs script old new (Err e) = (of_script script (length old) ≡ Some e) × (new ≡ old)
