use Rattle.rope.proofs.Readings.{summed_reads}
use Rattle.rope.proofs.view.RopeView.record.Goals as goal

pub returns : goal.returns
returns g c = summed_reads g.M.Monoid.model c.args.self.summed c.record.ensures
