-- What the laws of a monoid give of rows.
use Rattle.std.proofs.Common.{◌≡◌, Some, None, Option, unwrap_or, refl, ap, ◌∙◌}
use Rattle.monoid.specs.Monoid.{Model, Lawful, from_row}

module _ {V R : Type 0} (m : Model V R) (l : Lawful m) where
  -- a value's row turns back into it
  pub from_row_back : (x : V) → from_row m (m.row x) ≡ x
  from_row_back x = ap (λ o. unwrap_or o m.empty) (l.back x)

  pub from_row_is : {r : R} {o : Option V} {e x : V} → o ≡ m.check_row r → e ≡ m.empty → x ≡ unwrap_or o e → x ≡ from_row m r
  from_row_is eo ee ex = ex ∙ (λ i. unwrap_or (eo i) (ee i))

  none_or : (r : R) (o : Option V) → m.check_row r ≡ o → ((x : V) → ¬ (m.row x ≡ r)) → unwrap_or o m.empty ≡ m.empty
  none_or r (Some x) e n = absurd (n x (l.exact r x e))
  none_or r None e n = refl

  -- a row of no value turns into the empty value
  pub from_row_none : (r : R) → ((x : V) → ¬ (m.row x ≡ r)) → from_row m r ≡ m.empty
  from_row_none r n = none_or r (m.check_row r) refl n
