use Rattle.std.proofs.Common.{refl}
use Rattle.zemor.proofs.Writing.{no_upper, decoded}
use Rattle.zemor.proofs.matrix.written.decode.Goals as goal

pub returns-then-has_uppercase : goal.returns-then-has_uppercase
returns-then-has_uppercase c = (refl, λ h. let none = no_upper c.args.text.now h.1 in let some = c.has_uppercase.ensures in let is = c.if-has_uppercase.true in cc)

pub returns : goal.returns
returns c =
    let is = c.has_uppercase.ensures in
    let no = c.if-has_uppercase.false in
    rw (c.ok_or.ensures.value, c.ok.ensures.value) (decoded c.args.text.now c.from_hex.result c.from_hex.ensures cc)
