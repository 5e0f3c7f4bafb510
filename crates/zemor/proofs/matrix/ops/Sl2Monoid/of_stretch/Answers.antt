use Rattle.std.proofs.Common.{sym, ◌∙◌}
use Rattle.monoid.specs.Monoid.{fold_of}
use Rattle.zemor.specs.Values.{sl2}
use Rattle.zemor.specs.Laws.{same}
use Rattle.zemor.proofs.Texts.{fold_product}
use Rattle.zemor.proofs.matrix.ops.Sl2Monoid.of_stretch.Goals as goal

pub returns : goal.returns
returns c = same c.of_stretch.result (fold_of sl2 c.args.stretch.now) (c.of_stretch.ensures ∙ sym (fold_product c.args.stretch.now))
