use Rattle.std.proofs.Common.{get_or, ap}
use Rattle.rope.specs.Held.{seen_in}
use Rattle.rope.proofs.Readings.{reads}
use Rattle.rope.proofs.view.View.record.Goals as goal

pub returns : goal.returns
returns g c =
    let v = c.args.self in
    reads (seen_in v) c.args.i g.M.Monoid.model c.requires.sound _ c.requires.below (ap (get_or v.records.now c.args.i) c.index-self-i.is)
