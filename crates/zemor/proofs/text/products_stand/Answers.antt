use Rattle.zemor.proofs.Products.{within, attained, tells}
use Rattle.zemor.proofs.Texts.{slips_show}
use Rattle.zemor.proofs.text.products_stand.Goals as goal

pub returns-clause-bounded : goal.returns-clause-bounded
returns-clause-bounded c = within

pub returns-clause-attained : goal.returns-clause-attained
returns-clause-attained c = attained

pub returns-clause-apart : goal.returns-clause-apart
returns-clause-apart c = tells

pub returns-clause-slips : goal.returns-clause-slips
returns-clause-slips c = slips_show
