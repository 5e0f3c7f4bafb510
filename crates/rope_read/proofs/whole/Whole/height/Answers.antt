use Rattle.std.proofs.Common.{◌≡◌, arith, rules}
use Rattle.rope.specs.Arena.{height_of}
use Rattle.rope.specs.Memory.{seen}
use Rattle.rope_read.proofs.Lows.{height_low}
use Rattle.rope_read.proofs.whole.Whole.height.Goals as goal

pub returns-clause-low : goal.returns-clause-low
returns-clause-low g c h =
    let t = c.args.self in
    let is : c.map_or.result ≡ height_of (seen t.view) t.root = search rules in
    omega (arith, is, height_low (seen t.view) t.root t.view.sound t.inside h)
