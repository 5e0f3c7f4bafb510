use Rattle.std.proofs.Common.{◌-◌, ◌++◌, ap, ◌∙◌}
use Rattle.std.specs.List.{between}
use Rattle.monoid.specs.Monoid.{fold_of}
use Rattle.monoid.proofs.Folds.{joined_folds}
use Rattle.rope.specs.Tree.{text}
use Rattle.rope.specs.Arena.{tree_at}
use Rattle.rope.specs.Memory.{seen}
use Rattle.rope.proofs.Readings.{splits_of}
use Rattle.rope_read.proofs.Pieces.{piece_right, piece_both, piece_part}
use Rattle.rope_read.proofs.tree.+fold_at.Goals as goal

pub returns-in-Leaf : goal.returns-in-Leaf
returns-in-Leaf g t c =
    c.fold.ensures.value
    ∙ ap (fold_of g.M.Monoid.model) (c.bytes.ensures ∙ piece_part c.record-top.ensures c.in-Leaf.is c.args.a c.args.b c.requires.within)

pub returns-then-a-split : goal.returns-then-a-split
returns-then-a-split g t c =
    c.fold_at-then-a-split.ensures
    ∙ ap (fold_of g.M.Monoid.model)
    (piece_right (splits_of c.record-top.ensures c.in-Inner.is) c.args.a c.args.b c.record-split.result.length c.record-split.ensures.long c.if-a-split.true)

pub returns-else-a-split : goal.returns-else-a-split
returns-else-a-split g t c =
    let m = g.M.Monoid.model in
    let v = seen c.args.view in
    let n = c.record-split.result.length in
    let xs = between c.args.a n (text (tree_at v c.in-Inner.left)) in
    let ys = between 0 (c.args.b - n) (text (tree_at v c.in-Inner.right)) in
    let split = piece_both (splits_of c.record-top.ensures c.in-Inner.is) c.args.a c.args.b n c.record-split.ensures.long c.if-a-split.false c.if-b-split.false in
    ◌∙◌ {b = fold_of m (xs ++ ys)}
    (joined_folds m g.met.M.Monoid.lawful xs ys c.fold_at-else-a-split.ensures c.fold_at-else-a-split-2.ensures c.join.ensures) (ap (fold_of m) split)
