use Rattle.std.proofs.Common.{Ok, subst}
use Rattle.shelf_view.specs.State.{state_of}
use Rattle.script.specs.Answers.{WritesSaid, said_to_mark}
use Rattle.script.proofs.Telling.{mark_told}
use Rattle.script.proofs.run.tell_mark.Goals as goal

pub returns : goal.returns
returns c =
    let h = c.in_ok-document.ensures in
    let out = c.args.out.now in
    let new = c.write_digits.new.out in
    let n = c.write_digits.result in
    subst (λ z. WritesSaid (said_to_mark (state_of z) c.args.d) out (Ok n) new) c.view.ensures
    (mark_told h.0 h.1 c.summary-summary.result out new n c.summary-summary.ensures.value (rw c.to_hex.ensures.value at c.write_digits.ensures))
