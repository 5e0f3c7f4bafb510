use Rattle.std.proofs.Common.{◌≡◌, ◌+◌, ◌-◌, refl, ap, ◌∙◌, length, arith}
use Rattle.std.proofs.lemmas.List.Edits.{length-between}
use Rattle.std.specs.List.{between}
use Rattle.rope.specs.Tree.{text}
use Rattle.rope.specs.Arena.{tree_at, part}
use Rattle.rope.specs.Memory.{seen}
use Rattle.rope.proofs.Readings.{splits_of}
use Rattle.rope_read.proofs.Pieces.{piece_right, piece_both, piece_part, copied_both}
use Rattle.rope_read.proofs.tree.+copy_at.Goals as goal

pub returns-in-Leaf : goal.returns-in-Leaf
returns-in-Leaf g t c =
    let xs = text (tree_at (seen c.args.view) c.args.i) in
    let piece = part (seen c.args.view) c.in-Leaf.origin (c.in-Leaf.start + c.args.a) (c.args.b - c.args.a) in
    let bytes : c.bytes-bytes.result.now ≡ between c.args.a c.args.b xs = ◌∙◌ {b = piece} c.bytes-bytes.ensures (piece_part c.record-top.ensures c.in-Leaf.is c.args.a c.args.b c.requires.within) in
    let long : length c.bytes-bytes.result.now ≡ c.args.b - c.args.a = ap length bytes ∙ length-between xs c.args.a c.args.b c.requires.within in
    rw (c.copy_from_slice.ensures.after ∙ bytes, long) refl

pub returns-then-a-split : goal.returns-then-a-split
returns-then-a-split g t c =
    let n = c.record-split.result.length in
    let part = piece_right (splits_of c.record-top.ensures c.in-Inner.is) c.args.a c.args.b n c.record-split.ensures.long c.if-a-split.true in
    let long : c.args.b - n - (c.args.a - n) ≡ c.args.b - c.args.a = omega (arith, c.requires.ordered) in
    rw (part, long) at c.copy_at-then-a-split.ensures

pub returns-else-a-split : goal.returns-else-a-split
returns-else-a-split g t c =
    let n = c.record-split.result.length in
    let l = text (tree_at (seen c.args.view) c.in-Inner.left) in
    let r = text (tree_at (seen c.args.view) c.in-Inner.right) in
    let part = piece_both (splits_of c.record-top.ensures c.in-Inner.is) c.args.a c.args.b n c.record-split.ensures.long c.if-a-split.false c.if-b-split.false in
    rw part at (copied_both (between c.args.a n l) (between 0 (c.args.b - n) r) c.args.out.now c.copy_at-else-a-split.new.out c.copy_at-else-a-split-2.new.out
    (n - c.args.a) (c.args.b - n - 0) (c.args.b - c.args.a)
    (length-between l c.args.a n (omega (arith, c.record-split.ensures.long))) (omega arith) (omega (arith, c.requires.room)) c.copy_at-else-a-split.ensures c.copy_at-else-a-split-2.ensures)
