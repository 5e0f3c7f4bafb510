use Rattle.std.proofs.Common.{sym}
use Rattle.monoid.proofs.Pairs.{fold_pair}
use Rattle.monoid.proofs.pair.PairMonoid.of_stretch.Goals as goal

pub returns : goal.returns
returns g c = rw (c.of_stretch.ensures, c.of_stretch-2.ensures) (sym (fold_pair g.A.Monoid.model g.B.Monoid.model c.args.stretch.now))
