use Rattle.rope_read.proofs.tree.+byte_at.Given as goal

abbrev pub decreases-byte_at : goal.decreases-byte_at
decreases-byte_at g l = l.i
