use Rattle.rope_cut.proofs.+back_at.Given as goal

abbrev pub decreases-back_at : goal.decreases-back_at
decreases-back_at g l = l.i
