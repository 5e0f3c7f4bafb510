use Rattle.rope.proofs.store.Store.+build.Given as goal

abbrev pub decreases-build : goal.decreases-build
decreases-build g l = l.piece.len
