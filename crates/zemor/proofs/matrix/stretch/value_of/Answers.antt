use Rattle.std.proofs.Common.{◌≡◌, ℕ, ◌<◌, ◌≤◌, Ok, Err, Result, MatchResult, refl, sym, ◌∙◌, subst, arith}
use Rattle.std.specs.Result.{IsOk}
use Rattle.residue.specs.Residue.{prime}
use Rattle.residue.specs.declared.Residue.{Residue}
use Rattle.residue.specs.declared.TooLarge.{TooLarge}
use Rattle.zemor.specs.Matrix.{matrix}
use Rattle.zemor.specs.Values.{Valid, product_valid}
use Rattle.zemor.specs.Laws.{four}
use Rattle.zemor.proofs.matrix.stretch.value_of.Goals as goal
use Rattle.zemor.proofs.matrix.stretch.value_of.Goals.{After-unwrap-4}

is_ok : (n : ℕ) (r : Result Residue TooLarge) → MatchResult r (λ x. x.n ≡ n) (λ e. (e.0 ≡ n) × (prime ≤ n)) → n < prime → IsOk r
is_ok n (Ok x) h low = refl
is_ok n (Err e) h low = absurd (omega arith)

pub unwrap-requires : goal.unwrap-requires
unwrap-requires c = let v = subst Valid (sym c.requires.1) (product_valid c.requires.0) in is_ok c.args.e.a c.try_from.result c.try_from.ensures v.0.0

pub unwrap-requires-2 : goal.unwrap-requires-2
unwrap-requires-2 c = let v = subst Valid (sym c.requires.1) (product_valid c.requires.0) in is_ok c.args.e.b c.try_from-2.result c.try_from-2.ensures v.0.1

pub unwrap-requires-3 : goal.unwrap-requires-3
unwrap-requires-3 c = let v = subst Valid (sym c.requires.1) (product_valid c.requires.0) in is_ok c.args.e.c c.try_from-3.result c.try_from-3.ensures v.1.0.0

pub unwrap-requires-4 : goal.unwrap-requires-4
unwrap-requires-4 c = let v = subst Valid (sym c.requires.1) (product_valid c.requires.0) in is_ok c.args.e.d c.try_from-4.result c.try_from-4.ensures v.1.0.1

entries : (c : After-unwrap-4) → matrix c.unwrap.result.n c.unwrap-2.result.n c.unwrap-3.result.n c.unwrap-4.result.n ≡ c.args.e
entries c =
    four _ c.args.e (rw c.unwrap.ensures at c.try_from.ensures) (rw c.unwrap-2.ensures at c.try_from-2.ensures) (rw c.unwrap-3.ensures at c.try_from-3.ensures) (rw c.unwrap-4.ensures at c.try_from-4.ensures)

pub invariant_of-result : goal.invariant_of-result
invariant_of-result c = record { valid = (subst Valid (sym (entries c ∙ c.requires.1)) (product_valid c.requires.0)).1.1 }

pub returns : goal.returns
returns c = entries (goal.at.returns c).After-unwrap-4
