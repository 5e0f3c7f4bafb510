use Rattle.std.proofs.Common.{take, get_or, ◌∙◌, arith}
use Rattle.monoid.specs.Monoid.{fold_from}
use Rattle.monoid.proofs.Folds.{fold_more}
use Rattle.monoid.proofs.Monoid.lengthened.Goals as goal

pub loop-b-preserved : goal.loop-b-preserved
loop-b-preserved g c =
    let m = g.Self.Monoid.model in
    let i = c.loop-b.b-index in
    let x = c.args.self in
    let text = c.args.text.now in
    let next = m.joined (fold_from m x (take i text)) (m.of_byte (get_or text i 0)) in (
      omega arith,
      ◌∙◌ {b = next} (rw (c.loop-b.invariant.1, c.of_byte.ensures) at c.join-sum.ensures) (fold_more m x text i c.loop-b-test.true),
    )
