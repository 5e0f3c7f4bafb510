-- The laws of two monoids side by side, from the laws of each.
use Rattle.std.specs.Prelude.{◌≡◌, Some, None, Option}
use Rattle.std.proofs.Common.{ap}
use Rattle.monoid.specs.Monoid.{Model, Lawful}
use Rattle.monoid.specs.Pair.{pair_of, both, pair_model}
use Rattle.monoid.specs.declared.pair.Pair.{Pair}

first_of : {A B : Type 0} → Option (Pair A B) → Option A
first_of (Some p) = Some p.first
first_of None = None

second_of : {A B : Type 0} → Option (Pair A B) → Option B
second_of (Some p) = Some p.second
second_of None = None

-- where there is a pair, its halves are there
halves : {A B : Type 0} (o : Option A) (p : Option B) (x : A) (y : B) → both o p ≡ Some (pair_of x y) → (o ≡ Some x) × (p ≡ Some y)
unfolding first_of second_of
halves (Some a) (Some b) x y e = (ap first_of e, ap second_of e)
halves (Some a) None x y e = cc e
halves None p x y e = cc e

module _ {A B R S : Type 0} (m : Model A R) (n : Model B S) (k : Lawful m) (l : Lawful n) where
  pub lawful : Lawful (pair_model m n)
  lawful = record {
    left = λ x i. pair_of (k.left x.first i) (l.left x.second i);
    right = λ x i. pair_of (k.right x.first i) (l.right x.second i);
    assoc = λ x y z i. pair_of (k.assoc x.first y.first z.first i) (l.assoc x.second y.second z.second i);
    back = λ x i. both (k.back x.first i) (l.back x.second i);
    exact = λ r x e.
        let h = halves (m.check_row r.first) (n.check_row r.second) x.first x.second e in
        λ i. pair_of (k.exact r.first x.first h.0 i) (l.exact r.second x.second h.1 i);
    rows = λ x y i. pair_of (k.rows x.first y.first i) (l.rows x.second y.second i);
  }
