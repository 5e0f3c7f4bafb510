-- What a script's commands answer, and what they do to a marked shelf.
use Rattle.std.specs.Prelude.{◌≡◌, ℕ, ◌<◌, ◌≤◌, List, [], ◌∷◌, ◌++◌, ◌⊎◌, ◌+◌, length, take, decimal, Some, None, Ok, Err, Option, Result, nat_lt, codes}
use Rattle.std.specs.Io.KnownBytes.{Appends}
use Rattle.std.specs.Result.{result_map_both}
use Rattle.refusal.specs.Writing.{Stands}
use Rattle.netstring.specs.Netstring.{netstring}
use Rattle.refusal.specs.Refusals.{number_of, first}
use Rattle.shelf_view.specs.State.{State, unknown, text_at}
use Rattle.shelf_view.specs.Questions.{of_document}
use Rattle.shelf_view.specs.Marked.{fingerprint, written}
use Rattle.refusal.specs.declared.Refusal.{Refusal}
use Rattle.refusal.specs.declared.Refusal.TheVariants.{NoDocument, SmallBuffer}
use Rattle.text_shelf.specs.Shelves.{parts, strings}
use Rattle.text_shelf.specs.Steps.{Steps, made}
use Rattle.text_shelf.specs.declared.call.Call.{Call}
use Rattle.text_shelf.specs.declared.call.Call.TheVariants as on_shelf
use Rattle.text_shelf.specs.declared.shelf.Shelf.{Shelf}
use Rattle.script.specs.Commands.{ReadAt}
use Rattle.script.specs.declared.command.Command.{Command}
use Rattle.script.specs.declared.limits.TheConstants.{MOST_ANSWER, MOST_TOLD}
use Rattle.script.specs.declared.run.Answered.{Answered}
use Rattle.script.specs.declared.command.Command.TheVariants.{Put, Cut, Splice, Mark, Text}

-- ONE COMMAND

-- put, cut and splice answer the number made
abbrev pub number_said : Result ℕ Refusal → Result (List ℕ) Refusal
number_said made = result_map_both decimal (λ e. e) made

abbrev pub SaysNumber : {V R : Type 0} {kind : _} → Shelf V R kind → Call → Result (List ℕ) Refusal → Shelf V R kind → Type 0
SaysNumber s call said t = (n : Result ℕ Refusal) × (Steps s call (made n) t × (said ≡ number_said n))

-- a question is answered by this text, unless there is a reason to refuse it
abbrev pub text_said : Option Refusal → List ℕ → Result (List ℕ) Refusal
text_said None text = Ok text
text_said (Some e) text = Err e

-- mark answers the fingerprint of a document,
abbrev pub said_to_mark : State → ℕ → Result (List ℕ) Refusal
said_to_mark s d = text_said (of_document s d) (written (fingerprint (text_at s d)))

-- and text its text; one above MOST_TOLD bytes fits no answer
abbrev pub said_to_text : State → ℕ → Result (List ℕ) Refusal
said_to_text s d = text_said (first ((unknown s d, NoDocument) ∷ (nat_lt MOST_TOLD (length (text_at s d)), SmallBuffer) ∷ [])) (text_at s d)

-- what is said to a command, or to what is none, on the shelf s; and the shelf t that is left
abbrev pub Says : {V R : Type 0} {kind : _} → Shelf V R kind → Result Command Refusal → Result (List ℕ) Refusal → Shelf V R kind → Type 0
Says s (Ok (Put text)) said t = SaysNumber s (on_shelf.Put text.value) said t
Says s (Ok (Cut d a b)) said t = SaysNumber s (on_shelf.Cut d.value a.value b.value) said t
Says s (Ok (Splice d a b e)) said t = SaysNumber s (on_shelf.Splice d.value a.value b.value e.value) said t
Says s (Ok (Mark d)) said t = (said ≡ said_to_mark (strings (parts s)) d.value) × (t ≡ s)
Says s (Ok (Text d)) said t = (said ≡ said_to_text (strings (parts s)) d.value) × (t ≡ s)
Says s (Err e) said t = (said ≡ Err e) × (t ≡ s)

-- what stands in an answer: what is said, or "-N@P" with the refusal's number and the place of the command's netstring
abbrev pub worded : ℕ → Result (List ℕ) Refusal → List ℕ
worded place (Ok text) = text
worded place (Err e) = codes "-" ++ (decimal (number_of e) ++ (codes "@" ++ decimal place))

-- one netstring
abbrev pub answer_text : ℕ → Result (List ℕ) Refusal → List ℕ
answer_text place said = netstring (worded place said)

-- what is said lies at the buffer's start as a netstring, with its length; a refusal has left the buffer as it was
abbrev pub WritesSaid : Result (List ℕ) Refusal → List ℕ → Result ℕ Refusal → List ℕ → Type 0
WritesSaid (Ok text) old (Ok n) new = Stands (netstring text) old n new
WritesSaid (Err e) old (Err f) new = (f ≡ e) × (new ≡ old)
WritesSaid (Ok text) old (Err f) new = ⊥
WritesSaid (Err e) old (Ok n) new = ⊥

-- RUNS

-- from the place i of a script, on the shelf s: the answer, the place behind, and the shelf that is left. Nothing is
-- answered at the script's end or beyond.
pub data Turn {V R : Type 0} {kind : _} (script : List ℕ) (i : ℕ) (s : Shelf V R kind) : List ℕ → ℕ → Shelf V R kind → Type 0 where
  over : length script ≤ i → Turn script i s [] (length script) s
  answered : {j : ℕ} {t : Shelf V R kind} (command : Result Command Refusal) (said : Result (List ℕ) Refusal)
      → i < length script → ReadAt script i command j → Says s command said t → Turn script i s (answer_text i said) j t

-- turns of a script, one behind the other, with the answers of all
pub data Turns {V R : Type 0} {kind : _} (script : List ℕ) (i : ℕ) (s : Shelf V R kind) : List ℕ → ℕ → Shelf V R kind → Type 0 where
  none : Turns script i s [] i s
  more : {a before : List ℕ} {j k : ℕ} {t u : Shelf V R kind}
      → Turns script i s before j t → j < length script → Turn script j t a k u → Turns script i s (before ++ a) k u

-- what `run` does: one turn, whose answer lies at the buffer's start, with its length; what lies behind keeps its bytes.
-- A buffer below MOST_ANSWER bytes is refused before all else, and then nothing is changed.
abbrev pub Ran : {V R : Type 0} {kind : _}
    → List ℕ → ℕ → Shelf V R kind → List ℕ → Shelf V R kind → List ℕ → Result Answered Refusal → Type 0
Ran script i s old t new (Ok r) = (MOST_ANSWER ≤ length old) × ((a : List ℕ) × (Turn script i s a r.next t × Stands a old r.len new))
Ran script i s old t new (Err e) = (length old < MOST_ANSWER) × (e ≡ SmallBuffer) × (t ≡ s) × (new ≡ old)

-- turns that each began with MOST_ANSWER bytes left of n: the last one did, and those before it had more. From the script's end
-- or beyond there is the one that answers nothing.
pub data TurnsIn {V R : Type 0} {kind : _} (n : ℕ) (script : List ℕ) (i : ℕ) (s : Shelf V R kind) : List ℕ → ℕ → Shelf V R kind → Type 0 where
  last : {a before : List ℕ} {j k : ℕ} {t u : Shelf V R kind}
      → Turns script i s before j t → length before + MOST_ANSWER ≤ n → Turn script j t a k u → TurnsIn n script i s (before ++ a) k u

-- what `run_into` does: turns up to the script's end, or until fewer than MOST_ANSWER bytes are left, and none beyond; all their
-- answers stand at the buffer's start, with their length. It refuses as `run` does.
abbrev pub RanInto : {V R : Type 0} {kind : _}
    → List ℕ → ℕ → Shelf V R kind → List ℕ → Shelf V R kind → List ℕ → Result Answered Refusal → Type 0
RanInto script i s old t new (Ok r) =
    (MOST_ANSWER ≤ length old) × ((r.next ≡ length script) ⊎ (length old < r.len + MOST_ANSWER))
    × ((all : List ℕ) × (TurnsIn (length old) script i s all r.next t × Stands all old r.len new))
RanInto script i s old t new (Err e) = (length old < MOST_ANSWER) × (e ≡ SmallBuffer) × (t ≡ s) × (new ≡ old)

-- turns up to one whose answer is not written whole: what is written is the answers before it, and a front of its own
pub data BrokenOff {V R : Type 0} {kind : _} (script : List ℕ) (i : ℕ) (s : Shelf V R kind) : List ℕ → Shelf V R kind → Type 0 where
  within : {a before : List ℕ} {j k n : ℕ} {t u : Shelf V R kind}
      → Turns script i s before j t → j < length script → Turn script j t a k u → n < length a → BrokenOff script i s (before ++ take n a) u

-- what `run_all` does, for a writer that held the bytes `old` and holds the bytes `new`, where it tells them: turns up to
-- the script's end, and all their answers are written; with an error, turns up to one whose answer is not written whole
abbrev pub RanAll : {V R : Type 0} {kind : _} {E : Type 0}
    → List ℕ → ℕ → Shelf V R kind → Option (List ℕ) → Shelf V R kind → Option (List ℕ) → Result (Unit {0}) E → Type 0
RanAll script i s old t new (Ok u) =
    (all : List ℕ) × ((k : ℕ) × (Turns script i s all k t × (length script ≤ k) × Appends old new all))
RanAll script i s old t new (Err e) = (written : List ℕ) × (BrokenOff script i s written t × Appends old new written)
