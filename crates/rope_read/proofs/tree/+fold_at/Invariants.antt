use Rattle.rope_read.proofs.tree.+fold_at.Given as goal

abbrev pub decreases-fold_at : goal.decreases-fold_at
decreases-fold_at g l = l.i
