use Rattle.shelf_promise.proofs.Running.{kept}
use Rattle.shelf_promise.proofs.told.calls.Goals as goal

pub returns : goal.returns
returns g c b calls answers h = (kept g.M.Monoid.model g.met.M.Monoid.lawful h c.args._shelf.now.store.summed, tt)
