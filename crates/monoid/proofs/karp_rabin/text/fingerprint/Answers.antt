use Rattle.std.proofs.Common.{ap, ◌∙◌}
use Rattle.monoid.proofs.Polynomials.{h_of, w_of}
use Rattle.monoid.proofs.karp_rabin.text.fingerprint.Goals as goal

pub returns-clause-polynomial : goal.returns-clause-polynomial
returns-clause-polynomial c = ap (λ x. x.h.n) c.fold.ensures.value ∙ h_of c.args.text.now

pub returns-clause-power : goal.returns-clause-power
returns-clause-power c = ap (λ x. x.w.n) c.fold.ensures.value ∙ w_of c.args.text.now
