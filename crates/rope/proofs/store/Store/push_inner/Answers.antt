use Rattle.std.proofs.Common.{◌∙◌, arith}
use Rattle.monoid.specs.Monoid.{fold_of}
use Rattle.rope.specs.Tree.{text}
use Rattle.rope.specs.Memory.{tree_of}
use Rattle.rope.proofs.Heights.{height_small}
use Rattle.rope.proofs.Pushes.{inner_fine}
use Rattle.rope.proofs.store.Store.push_inner.Goals as goal

pub overflow_add-max : goal.overflow_add-max
overflow_add-max g c =
    let s = c.args.self.now in
    let l = c.record-l.ensures in
    let r = c.record-r.ensures in
    omega (arith, c.max.ensures, l.high, r.high, height_small (tree_of s c.args.left) l.lawful_tree (omega (arith, c.requires.short)), height_small (tree_of s c.args.right) r.lawful_tree (omega (arith, c.requires.short)))

-- each row is that of the fold of its text
pub push-requires : goal.push-requires
push-requires g c =
    let m = g.M.Monoid.model in
    let s = c.args.self.now in
    let x = fold_of m (text (tree_of s c.args.left)) in
    let y = fold_of m (text (tree_of s c.args.right)) in
    let rows = m.joined_rows (m.row x) (m.row y) in
    let kept = m.joined_rows c.record-l.result.row c.record-r.result.row in
    inner_fine m g.met.M.Monoid.lawful s c.args.left c.args.right c.requires
    c.record-l.result c.record-r.result c.max.result c.join_rows-row.result c.record-l.ensures c.record-r.ensures c.max.ensures
    (◌∙◌ {b = kept} c.join_rows-row.ensures (◌∙◌ {b = rows} (λ i. m.joined_rows (c.record-l.ensures.row i) (c.record-r.ensures.row i)) (g.met.M.Monoid.lawful.rows x y)))
