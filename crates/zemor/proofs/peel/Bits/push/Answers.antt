use Rattle.zemor.proofs.Strings.{bits_push}
use Rattle.zemor.proofs.peel.Bits.push.Goals as goal

pub returns-clause-value : goal.returns-clause-value
returns-clause-value c = rw c.from.ensures (bits_push c.args.self.word c.args.self.len c.args.bit)
