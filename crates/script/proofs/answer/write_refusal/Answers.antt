use Rattle.std.proofs.Common.{◌+◌, ◌∷◌, [], ◌++◌, length, decimal, ap, ◌∙◌, arith}
use Rattle.script.proofs.Writing.{refused}
use Rattle.script.proofs.answer.write_refusal.Goals as goal

pub returns : goal.returns
returns c =
    let was = c.args.out.now in
    let p = decimal c.args.place in
    let n = decimal c.number-number.result in
    let f1 = decimal (2 + c.count.result + c.count-2.result) ++ (58 ∷ []) in
    let f2 = f1 ++ (45 ∷ []) in
    let f3 = f2 ++ n in
    let f4 = f3 ++ (64 ∷ []) in
    let w2 = c.append-at.ensures.after was f1 c.begin-at.ensures.after in
    let w3 = c.append_number-at.ensures.after was f2 w2 in
    let w4 = c.append-at-2.ensures.after was f3 w3 in
    let w5 = c.append_number-at-2.ensures.after was f4 w4 in
    let w6 = c.append.ensures.after was (f4 ++ p) w5 in
    let count = c.count.ensures ∙ ap (λ k. length (decimal k)) c.number-number.ensures in
    refused c.args.why c.args.place was c.append.new.out (2 + c.count.result + c.count-2.result) c.append.result (omega arith) (omega (arith, count)) (rw (← c.number-number.ensures) w6)
