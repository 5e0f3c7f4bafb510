-- What a summary of texts means: a monoid with a value for each byte, and the fold of a text.
use Rattle.std.specs.Prelude.{◌≡◌, ℕ, Bool, true, ◌&&◌, List, [], ◌∷◌, Some, None, Option, nat_lt, unwrap_or}

-- Values V, each told by a row R of plain numbers: the empty value, the value of each byte, the joining of two
-- values, a value's row, the value of a row if there is one, and the joining of two rows, whether values have them or not.
pub record Model (V R : Type 0) : Type 0 where
  pub empty : V
  pub of_byte : ℕ → V
  pub joined : V → V → V
  pub row : V → R
  pub check_row : R → Option V
  pub joined_rows : R → R → R

-- Joining is associative, and the empty value changes no value. A row has a value exactly where it is that value's row.
-- The rows of two values are joined to the row of the values joined.
pub record Lawful {V R : Type 0} (m : Model V R) : Type 0 where
  pub left : (x : V) → m.joined m.empty x ≡ x
  pub right : (x : V) → m.joined x m.empty ≡ x
  pub assoc : (x y z : V) → m.joined (m.joined x y) z ≡ m.joined x (m.joined y z)
  pub back : (x : V) → m.check_row (m.row x) ≡ Some x
  pub exact : (r : R) (x : V) → m.check_row r ≡ Some x → m.row x ≡ r
  pub rows : (x y : V) → m.joined_rows (m.row x) (m.row y) ≡ m.row (m.joined x y)

-- An inverse takes its value away, from either side: nothing is left but the empty value.
pub record Inverse {V R : Type 0} (m : Model V R) (inverse : V → V) : Type 0 where
  pub after : (x : V) → m.joined x (inverse x) ≡ m.empty
  pub before : (x : V) → m.joined (inverse x) x ≡ m.empty

-- A value that grows byte by byte: x becomes, with "ab" behind it, (x and a) and b.
abbrev pub fold_from : {V R : Type 0} → Model V R → V → List ℕ → V
fold_from m x [] = x
fold_from m x (k ∷ ks) = fold_from m (m.joined x (m.of_byte k)) ks

-- The fold of a text begins with the empty value.
abbrev pub fold_of : {V R : Type 0} → Model V R → List ℕ → V
fold_of m text = fold_from m m.empty text

-- Every number of the text is a byte, below 256.
abbrev pub all_bytes : List ℕ → Bool
all_bytes [] = true
all_bytes (k ∷ ks) = nat_lt k 256 && all_bytes ks

-- The value of a row; the empty value where the row is no value's.
abbrev pub from_row : {V R : Type 0} → Model V R → R → V
from_row m r = unwrap_or (m.check_row r) m.empty

-- The value made of a row, where the row meets the conditions of values.
abbrev pub if_valid : {V R : Type 0} {Valid : R → Type 0} → ((r : R) → Valid r → V) → (r : R) → Dec (Valid r) → Option V
if_valid make r (yes valid) = Some (make r valid)
if_valid make r (no _) = None
