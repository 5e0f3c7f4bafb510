use Rattle.std.proofs.Common.{rules, arith}
use Rattle.decimal.proofs.Steps.{counted}
use Rattle.decimal.proofs.count.Goals as goal

pub returns : goal.returns
returns c = let e = c.checked_ilog10.ensures in counted c.args.n c.map_or.result c.checked_ilog10.result (omega arith) e.none e.power_le e.next_power_gt c.map_or.ensures (λ k p. search rules)
