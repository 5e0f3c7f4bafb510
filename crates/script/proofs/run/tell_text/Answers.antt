use Rattle.std.proofs.Common.{◌∷◌, [], ◌++◌, length, decimal, Ok, sym, ap, ◌∙◌, subst, arith}
use Rattle.rope_read.specs.Texts.{bytes_in}
use Rattle.shelf_view.specs.State.{state_of}
use Rattle.script.specs.Answers.{WritesSaid, said_to_text}
use Rattle.script.proofs.Telling.{text_told}
use Rattle.script.proofs.Writing.{closed}
use Rattle.script.proofs.run.tell_text.Goals as goal

pub returns : goal.returns
returns c =
    let h = c.in_ok-document.ensures in
    let len = c.len-len.result in
    let out = c.args.out.now in
    let new = c.append.new.out in
    let n = c.append.result in
    let text = bytes_in c.text.result in
    let head = decimal len ++ (58 ∷ []) in
    let long = c.len-len.ensures ∙ ap length (sym c.text.ensures.value) in
    let body = c.append_text-at.ensures.after out head c.begin-at.ensures.after in
    let whole = closed text out new len n long (c.append.ensures.after out (head ++ text) body) in
    subst (λ z. WritesSaid (said_to_text (state_of z) c.args.d) out (Ok n) new) c.view.ensures
    (text_told h.0 h.1 text out new n c.text.ensures.value (omega (arith, long, c.if-len-gt-MOST_TOLD.false)) whole)
