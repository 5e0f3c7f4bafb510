use Rattle.std.proofs.Common.{take, ap, ◌∙◌}
use Rattle.std.proofs.lemmas.List.{take_min}
use Rattle.rope.proofs.store.base.capped.Goals as goal

pub returns : goal.returns
returns c = ap (λ n. take n c.args.build.now) c.min.ensures ∙ take_min 16777216 c.args.build.now
