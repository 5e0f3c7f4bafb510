use Rattle.std.proofs.Common.{refl}
use Rattle.zemor.specs.Bits.{byte_product}
use Rattle.zemor.proofs.text.figures_stand.Goals as goal

pub returns : goal.returns
unfolding byte_product
returns c = (refl, refl, refl, refl, refl, refl, refl, refl)
