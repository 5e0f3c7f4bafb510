use Rattle.monoid.proofs.Cancel.{solved, only}
use Rattle.monoid.proofs.between.Goals as goal

pub returns-clause-solves : goal.returns-clause-solves
returns-clause-solves g c =
    let m = g.G.Monoid.model in
    rw (c.join-2.ensures, c.join.ensures, c.inverse.ensures, c.inverse-2.ensures)
    (solved m g.G.Group.inverted g.met.G.Monoid.lawful g.met.G.Group.inverts c.args.front c.args.whole c.args.back)

pub returns-clause-only : goal.returns-clause-only
returns-clause-only g c = λ x e.
    let m = g.G.Monoid.model in
    rw (c.join-2.ensures, c.join.ensures, c.inverse.ensures, c.inverse-2.ensures)
    (only m g.G.Group.inverted g.met.G.Monoid.lawful g.met.G.Group.inverts c.args.front c.args.whole c.args.back x e)
