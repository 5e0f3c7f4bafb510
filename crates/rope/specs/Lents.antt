-- Lists that are filled from their front.
use Rattle.std.specs.Prelude.{◌≡◌, ℕ, ◌≤◌, List, length, take, drop}

-- of a list the first n were used, and now the first k are: what was used stays, and what lies behind is untouched
pub record Fills {X : Type 0} (n k : ℕ) (old new : List X) : Type 0 where
  pub more : n ≤ k
  pub room : length new ≡ length old
  pub before : take n new ≡ take n old
  pub behind : drop k new ≡ drop k old
