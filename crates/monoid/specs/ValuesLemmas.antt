-- Values that are rows under a condition that has one proof: equal rows are equal values, and a row is checked by its
-- condition.
use Rattle.std.specs.Prelude.{◌≡◌, Some, None, Option, MatchOption, unwrap_or, refl}
use Rattle.std.proofs.Common.{sym, ap, ◌∙◌}
use mathlib.Core.HLevel.{is_prop→PathP}
use Rattle.monoid.specs.Monoid.{if_valid}

module _ {V R : Type 0} {Valid : R → Type 0} (prop : (r : R) → IsProp (Valid r)) (make : (r : R) → Valid r → V) where
  pub same_value : {r s : R} (p : Valid r) (q : Valid s) → r ≡ s → make r p ≡ make s q
  same_value p q e = λ i. make (e i) (is_prop→PathP (λ j. Valid (e j)) (λ j. prop (e j)) p q i)

  pub if_valid_some : (r : R) (d : Dec (Valid r)) (p : Valid r) → if_valid make r d ≡ Some (make r p)
  if_valid_some r (yes q) p = ap (λ x. Some x) (same_value q p refl)
  if_valid_some r (no n) p = absurd (n p)

  pub if_valid_none : (r : R) (d : Dec (Valid r)) → ¬ (Valid r) → if_valid make r d ≡ None
  if_valid_none r (yes q) n = absurd (n q)
  if_valid_none r (no m) n = refl

  module _ (row : V → R) (kept : (r : R) (p : Valid r) → row (make r p) ≡ r) where
    pub if_valid_exact : (r : R) (d : Dec (Valid r)) (x : V) → if_valid make r d ≡ Some x → row x ≡ r
    if_valid_exact r (yes p) x e = sym (ap (λ o. row (unwrap_or o (make r p))) e) ∙ kept r p
    if_valid_exact r (no n) x e = cc e

    -- what is answered is the value with the row, or none where there is no such value
    pub if_valid_is : (dec : (r : R) → Dec (Valid r)) → ((x : V) → if_valid make (row x) (dec (row x)) ≡ Some x)
        → (r : R) (o : Option V) → MatchOption o (¬ (Valid r)) (λ x. row x ≡ r) → o ≡ if_valid make r (dec r)
    if_valid_is dec back r (Some x) h = sym (back x) ∙ ap (λ s. if_valid make s (dec s)) h
    if_valid_is dec back r None n = sym (if_valid_none r (dec r) n)
