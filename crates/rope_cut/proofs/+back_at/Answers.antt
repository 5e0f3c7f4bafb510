use Rattle.std.proofs.Common.{drop, sym, ap, ◌∙◌, arith}
use Rattle.rope.specs.Tree.{Tree, text}
use Rattle.rope.specs.Arena.{origin_text}
use Rattle.rope.specs.Memory.{arena_of}
use Rattle.rope.proofs.Readings.{splits_of, splits_size, leaf_of}
use Rattle.rope_cut.proofs.Cutting.{right_partable, back_right, back_joinable, back_joined, part_leaf, back_part}
use Rattle.rope_cut.proofs.+back_at.Goals as goal

pub back_at-requires : goal.back_at-requires
back_at-requires g t c κs within =
    let e = splits_of c.record-top.ensures c.in-Inner.is in
    (omega (arith, e.right), (within.0, (within.1, ((right_partable c.requires.partable e, omega (arith, splits_size e, c.record-split.ensures.long, c.requires.within))))))

pub join-requires : goal.join-requires
join-requires g t c =
    let e = splits_of c.record-top.ensures c.in-Inner.is in
    back_joinable c.requires.partable e c.args.a (omega (arith, c.record-split.ensures.long)) c.back_at-l.ensures

pub returns-in-Leaf : goal.returns-in-Leaf
returns-in-Leaf g t c =
    let n = c.record-top.result.length in
    let xs = origin_text (arena_of c.args.store.now) c.in-Leaf.origin in
    let is = (leaf_of c.record-top.ensures c.in-Leaf.is).1 in
    part_leaf (back_part xs c.in-Leaf.start n c.args.a (omega (arith, c.requires.within, c.record-top.ensures.long)) ∙ ap (λ (x : Tree). drop c.args.a (text x)) (sym is)) c.push_leaf.ensures

pub returns-then-a-split : goal.returns-then-a-split
returns-then-a-split g t c =
    let e = splits_of c.record-top.ensures c.in-Inner.is in
    back_right c.requires.partable e c.args.a c.record-split.result.length c.record-split.ensures.long (omega arith) c.back_at.ensures

pub returns-else-a-split : goal.returns-else-a-split
returns-else-a-split g t c =
    let e = splits_of c.record-top.ensures c.in-Inner.is in
    back_joined c.requires.partable e c.args.a (omega (arith, c.record-split.ensures.long)) c.back_at-l.ensures c.join.ensures
