use Rattle.rope_cut.proofs.Roots.{cut_done}
use Rattle.rope_cut.proofs.cut.Goals as goal

pub returns : goal.returns
returns g c = cut_done c.args.root c.args.a c.args.b c.front-before.ensures c.back.ensures
