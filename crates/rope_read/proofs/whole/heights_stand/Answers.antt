use Rattle.rope.proofs.Heights.{fewest}
use Rattle.rope_read.proofs.whole.heights_stand.Goals as goal

pub returns : goal.returns
returns c = fewest
