use Rattle.std.proofs.Common.{arith}
use Rattle.netstring.proofs.Puts.{long}
use Rattle.script.proofs.Parts.{read_ok, spans, text_at}
use Rattle.script.proofs.read.Arguments.text.Goals as goal

pub overflow_sub-result : goal.overflow_sub-result
overflow_sub-result c =
    let n = c.in_ok-content.field-0 in
    let s = c.args.self.now.inside.now in
    let at = c.args.self.now.at in
    omega (arith, spans s n.content.now at n.next (read_ok s at n c.read.result c.in_ok-content.ensures.value c.read.ensures), long n.content.now)

pub overflow_sub-result-2 : goal.overflow_sub-result-2
overflow_sub-result-2 c =
    let n = c.in_ok-content.field-0 in
    let s = c.args.self.now.inside.now in
    let at = c.args.self.now.at in
    omega (arith, spans s n.content.now at n.next (read_ok s at n c.read.result c.in_ok-content.ensures.value c.read.ensures), long n.content.now)

pub returns-clause-value : goal.returns-clause-value
returns-clause-value c =
    let n = c.in_ok-content.field-0 in
    let s = c.args.self.now.inside.now in
    let at = c.args.self.now.at in
    text_at s n.content.now at n.next (read_ok s at n c.read.result c.in_ok-content.ensures.value c.read.ensures)
