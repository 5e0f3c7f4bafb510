use Rattle.rope_cut.proofs.+splice_at.Given as goal

abbrev pub decreases-splice_at : goal.decreases-splice_at
decreases-splice_at g l = l.i
