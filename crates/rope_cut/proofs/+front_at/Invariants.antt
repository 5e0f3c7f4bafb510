use Rattle.rope_cut.proofs.+front_at.Given as goal

abbrev pub decreases-front_at : goal.decreases-front_at
decreases-front_at g l = l.i
