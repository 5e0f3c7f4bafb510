use Rattle.std.proofs.Common.{◌+◌}
use Rattle.rope.specs.Tree.{height}
use Rattle.rope.specs.Memory.{tree_of}
use Rattle.rope_join.proofs.+join.Given as goal

abbrev pub decreases-join : goal.decreases-join
decreases-join g l = height (tree_of l.store.now l.left) + height (tree_of l.store.now l.right)
