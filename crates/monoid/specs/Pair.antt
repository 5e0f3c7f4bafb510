-- Two monoids side by side, joined side by side.
use Rattle.std.specs.Prelude.{Some, None, Option}
use Rattle.monoid.specs.Monoid.{Model}
use Rattle.monoid.specs.declared.pair.Pair.{Pair}

abbrev pub pair_of : {A B : Type 0} → A → B → Pair A B
pair_of x y = record { first = x; second = y }

-- a pair, where both halves are there
abbrev pub both : {A B : Type 0} → Option A → Option B → Option (Pair A B)
both (Some x) (Some y) = Some (pair_of x y)
both (Some x) None = None
both None o = None

abbrev pub pair_model : {A B R S : Type 0} → Model A R → Model B S → Model (Pair A B) (Pair R S)
pair_model m n = record {
  empty = pair_of m.empty n.empty;
  of_byte = λ k. pair_of (m.of_byte k) (n.of_byte k);
  joined = λ x y. pair_of (m.joined x.first y.first) (n.joined x.second y.second);
  row = λ x. pair_of (m.row x.first) (n.row x.second);
  check_row = λ r. both (m.check_row r.first) (n.check_row r.second);
  joined_rows = λ r s. pair_of (m.joined_rows r.first s.first) (n.joined_rows r.second s.second);
}

abbrev pub pair_inverse : {A B : Type 0} → (A → A) → (B → B) → Pair A B → Pair A B
pair_inverse i j x = pair_of (i x.first) (j x.second)
