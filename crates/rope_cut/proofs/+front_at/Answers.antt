use Rattle.std.proofs.Common.{take, sym, ap, ◌∙◌, arith}
use Rattle.rope.specs.Tree.{Tree, text}
use Rattle.rope.specs.Arena.{origin_text}
use Rattle.rope.specs.Memory.{arena_of, tree_of}
use Rattle.rope.proofs.Readings.{splits_of, splits_size, leaf_of}
use Rattle.rope_cut.proofs.Cutting.{right_partable, front_left, front_joinable, front_joined, whole, part_leaf, front_whole, front_part}
use Rattle.rope_cut.proofs.+front_at.Goals as goal

pub returns-then-b-top : goal.returns-then-b-top
returns-then-b-top g t c =
    whole c.requires.partable (front_whole c.args.b (text (tree_of c.args.store.now c.args.i)) (omega (arith, c.record-top.ensures.long)))

pub front_at-r-requires : goal.front_at-r-requires
front_at-r-requires g t c κs within =
    let e = splits_of c.record-top.ensures c.in-Inner.is in
    (omega (arith, e.right), (within.0, (within.1, ((right_partable c.requires.partable e, (omega arith, omega (arith, splits_size e, c.record-split.ensures.long, c.requires.within.1)))))))

pub join-requires : goal.join-requires
join-requires g t c =
    let e = splits_of c.record-top.ensures c.in-Inner.is in
    front_joinable c.requires.partable e c.args.b c.record-split.result.length c.record-split.ensures.long (omega arith) c.front_at-r.ensures

pub returns-in-Leaf : goal.returns-in-Leaf
returns-in-Leaf g t c =
    let n = c.record-top.result.length in
    let xs = origin_text (arena_of c.args.store.now) c.in-Leaf.origin in
    let is = (leaf_of c.record-top.ensures c.in-Leaf.is).1 in
    part_leaf (front_part xs c.in-Leaf.start n c.args.b (omega (arith, c.requires.within.1, c.record-top.ensures.long)) ∙ ap (λ (x : Tree). take c.args.b (text x)) (sym is)) c.push_leaf.ensures

pub returns-then-b-split : goal.returns-then-b-split
returns-then-b-split g t c =
    let e = splits_of c.record-top.ensures c.in-Inner.is in
    front_left c.requires.partable e c.args.b (omega (arith, c.record-split.ensures.long)) c.front_at.ensures

pub returns-else-b-split : goal.returns-else-b-split
returns-else-b-split g t c =
    let e = splits_of c.record-top.ensures c.in-Inner.is in
    front_joined c.requires.partable e c.args.b c.record-split.result.length c.record-split.ensures.long (omega arith) c.front_at-r.ensures c.join.ensures
