use Rattle.std.proofs.Common.{◌++◌, decimal, arith, ltb-false, ltb-true}
use Rattle.netstring.specs.Netstring.{NoDigit}
use Rattle.netstring.proofs.Runs.{steps, above, ends, some_from}
use Rattle.netstring.proofs.read.further_digits.Goals as goal
use Rattle.netstring.proofs.read.further_digits.Goals.{in_default, in_default-2, in_default-3}

pub returns-in_err-checked_mul : goal.returns-in_err-checked_mul
returns-in_err-checked_mul c =
    let t = steps (decimal c.args.front ++ c.args.text.now) c.loop-rest.rest.now c.loop-rest.n c.loop-rest.invariant.begins (omega arith) (omega arith) (omega arith) (omega arith) in
    rw c.from_residual.ensures (above _ _ _ c.args.limit t (omega arith) (omega (arith, c.in_err-checked_mul.ensures)))

pub returns-in_err-n : goal.returns-in_err-n
returns-in_err-n c =
    let t = steps (decimal c.args.front ++ c.args.text.now) c.loop-rest.rest.now c.loop-rest.n c.loop-rest.invariant.begins (omega arith) (omega arith) (omega arith) (omega arith) in
    rw c.from_residual-in_err-n.ensures (above _ _ _ c.args.limit t (omega arith) (omega (arith, c.in_ok-checked_mul.ensures, c.in_err-n.ensures)))

pub loop-rest-preserved : goal.loop-rest-preserved
loop-rest-preserved c =
    let t = steps (decimal c.args.front ++ c.args.text.now) c.loop-rest.rest.now c.loop-rest.n c.loop-rest.invariant.begins (omega arith) (omega arith) (omega arith) (omega arith) in
    let m = c.in_ok-checked_mul.ensures in
    let n = c.in_ok-n.ensures in
    record { begins = rw (n.1, m.1) t; some = omega arith; fits = omega (arith, n.0, n.1) }

pub returns : goal.returns
returns c =
    let no' : NoDigit c.loop-rest.rest.now = elim c.if-rest-lt1.branch [ in_default w ↦ (λ h. omega (arith, ltb-true, ltb-false, some_from c.loop-rest.rest.now h.0)) | in_default-2 w ↦ (λ h. omega (arith, ltb-true, ltb-false)) | in_default-3 w ↦ (λ h. omega (arith, ltb-true, ltb-false)) ] in
    rw c.then_some.ensures (ends (decimal c.args.front ++ c.args.text.now) c.loop-rest.rest c.loop-rest.n c.args.limit c.loop-rest.invariant.begins (omega arith) (omega arith) no')
