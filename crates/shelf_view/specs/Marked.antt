-- The questions of a marked shelf, which keeps the pair of Zémor's product and line-column: its fingerprints.
use Rattle.std.specs.Prelude.{◌≡◌, ℕ, ◌+◌, ◌<◌, ◌≤◌, List, ◌++◌, length, drop, Some, None, Ok, Err, Option, Result}
use Rattle.monoid.specs.Monoid.{Model, fold_of}
use Rattle.monoid.specs.LineColumnValues.{line_column_model}
use Rattle.monoid.specs.Pair.{pair_model}
use Rattle.monoid.specs.declared.line_column.LineColumn.{LineColumn}
use Rattle.monoid.specs.declared.pair.Pair.{Pair}
use Rattle.zemor.specs.Values.{sl2, row}
use Rattle.zemor.specs.Windows.{AtMostFive}
use Rattle.zemor.specs.Written.{hex, bytes_of, WellFormed}
use Rattle.zemor.specs.declared.matrix.Entries.{Entries}
use Rattle.zemor.specs.declared.matrix.Sl2.{Sl2}
use Rattle.refusal.specs.declared.Refusal.{Refusal}
use Rattle.refusal.specs.declared.Refusal.TheVariants.{BadFingerprint, NoWindow}
use Rattle.rope.specs.Edits.{spliced}
use Rattle.shelf_view.specs.Questions.{of_copy}
use Rattle.shelf_view.specs.State.{State, text_at, part_at}
use Rattle.shelf_view.specs.declared.sameness.Sameness.{Sameness}
use Rattle.shelf_view.specs.declared.sameness.Sameness.TheVariants.{Different, Equal, Alike}

abbrev pub marked : Model (Pair Sl2 LineColumn) (Pair Entries LineColumn)
marked = pair_model sl2 line_column_model

-- the fingerprint of a text, and as 32 digits
abbrev pub fingerprint : List ℕ → Sl2
fingerprint text = fold_of sl2 text

abbrev pub written : Sl2 → List ℕ
written x = hex (bytes_of (row x))

-- what is told of two parts of n bytes; of at most five bytes, "equal" is said only of equal bytes
abbrev pub Compares : ℕ → List ℕ → List ℕ → Sameness → Type 0
Compares n s t Different = ¬ (fingerprint s ≡ fingerprint t)
Compares n s t Equal = (n ≤ 5) × (fingerprint s ≡ fingerprint t) × (s ≡ t)
Compares n s t Alike = (5 < n) × (fingerprint s ≡ fingerprint t)

-- what is told of the n bytes from a in document d and the n bytes from b in document e
abbrev pub ComparesIn : State → ℕ → ℕ → ℕ → ℕ → ℕ → Sameness → Type 0
ComparesIn s d a e b n r = Compares n (part_at s d a (a + n)) (part_at s e b (b + n)) r

-- the fingerprint that a window w gives: in the place of the part a to b of the text,
abbrev pub in_part : List ℕ → ℕ → ℕ → List ℕ → Sl2
in_part text a b w = fingerprint (spliced text a b w)

-- and between what has the fingerprints front and back
abbrev pub in_between : Sl2 → Sl2 → List ℕ → Sl2
in_between front back w = sl2.joined front (sl2.joined (fingerprint w) back)

-- the window w gives this fingerprint
pub record GivesDigits (whole : List ℕ → Sl2) (digits w : List ℕ) : Type 0 where
  pub short : AtMostFive w
  pub same : written (whole w) ≡ digits

-- why read-back is refused: for an earlier reason, since the fingerprint is not well formed, or since no window gives it
pub data Unread (why : Option Refusal) (whole : List ℕ → Sl2) (digits : List ℕ) : Refusal → Type 0 where
  earlier : {e : Refusal} → why ≡ Some e → Unread why whole digits e
  misshapen : why ≡ None → ¬ (WellFormed digits) → Unread why whole digits BadFingerprint
  none_gives : why ≡ None → WellFormed digits → ((w : List ℕ) → GivesDigits whole digits w → ⊥) → Unread why whole digits NoWindow

-- the one window that gives the fingerprint stands at the buffer's start, and its length is answered; what lies behind
-- keeps its bytes, and a refusal leaves the buffer as it was
abbrev pub ReadsBack : Option Refusal → (List ℕ → Sl2) → List ℕ → List ℕ → List ℕ → Result ℕ Refusal → Type 0
ReadsBack why whole digits old new (Ok n) =
    (why ≡ None) × WellFormed digits
    × ((w : List ℕ) × (GivesDigits whole digits w × ((v : List ℕ) → GivesDigits whole digits v → v ≡ w)
    × (n ≡ length w) × (new ≡ w ++ drop n old)))
ReadsBack why whole digits old new (Err e) = Unread why whole digits e × (new ≡ old)

-- read-back on a shelf, in the place of the part a to b of document d; a buffer below five bytes is refused
abbrev pub ReadsBackIn : State → ℕ → ℕ → ℕ → List ℕ → List ℕ → List ℕ → Result ℕ Refusal → Type 0
ReadsBackIn s d a b digits old new r = ReadsBack (of_copy s d a b 5 (length old)) (in_part (text_at s d) a b) digits old new r
