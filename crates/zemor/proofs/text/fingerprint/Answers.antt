use Rattle.std.proofs.Common.{sym, ap, ◌∙◌}
use Rattle.zemor.specs.Values.{row}
use Rattle.zemor.proofs.Texts.{fold_product, slips_show}
use Rattle.zemor.proofs.text.fingerprint.Goals as goal

pub returns-clause-bits : goal.returns-clause-bits
returns-clause-bits c = ap row c.fold.ensures.value ∙ fold_product c.args.text.now

pub returns-clause-slips : goal.returns-clause-slips
returns-clause-slips c = λ other h slip.
    let is = c.fold.ensures.value in
    let both = slips_show c.args.text.now other c.fold.ensures.bytes h slip in
    (λ e. both.0 (sym is ∙ e), λ e. is ∙ both.1 e)
