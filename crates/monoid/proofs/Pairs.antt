-- The fold of two monoids side by side is their folds side by side.
use Rattle.std.proofs.Common.{◌≡◌, ℕ, List, [], ◌∷◌, refl}
use Rattle.monoid.specs.Monoid.{Model, fold_from, fold_of}
use Rattle.monoid.specs.Pair.{pair_of, pair_model}

module _ {A B R S : Type 0} (m : Model A R) (n : Model B S) where
  from : (x : A) (y : B) (text : List ℕ) → fold_from (pair_model m n) (pair_of x y) text ≡ pair_of (fold_from m x text) (fold_from n y text)
  from x y [] = refl
  from x y (k ∷ ks) = from (m.joined x (m.of_byte k)) (n.joined y (n.of_byte k)) ks

  pub fold_pair : (text : List ℕ) → fold_of (pair_model m n) text ≡ pair_of (fold_of m text) (fold_of n text)
  fold_pair text = from m.empty n.empty text
