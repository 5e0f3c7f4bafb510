use Rattle.std.proofs.Common.{arith, ltb-false, ltb-true}
use Rattle.netstring.specs.Netstring.{NoDigit}
use Rattle.netstring.proofs.Runs.{starts, no_length, zero_is, some_from}
use Rattle.netstring.proofs.read.run_at.Goals as goal
use Rattle.netstring.proofs.read.run_at.Goals.{in_default-via-then-text-lt1, in_default-via-else-text-lt1+in_default+then-text-lt48, in_default-via-else-text-lt1+in_default+else-text-lt48+else-text-lt58}

pub returns-in-48 : goal.returns-in-48
returns-in-48 c = zero_is c.args.text.now c.args.limit (omega arith) (omega arith)

pub returns-in-49-to-57 : goal.returns-in-49-to-57
returns-in-49-to-57 c = rw (← starts c.args.text.now (omega arith) (omega arith)) at c.further_digits.ensures

pub returns-in_default : goal.returns-in_default
returns-in_default c =
    let no' : NoDigit c.args.text.now = elim c.in_default.branch [ in_default-via-then-text-lt1 w ↦ (λ h. omega (arith, ltb-true, ltb-false, some_from c.args.text.now h.0)) | in_default-via-else-text-lt1+in_default+then-text-lt48 w ↦ (λ h. omega (arith, ltb-true, ltb-false)) | in_default-via-else-text-lt1+in_default+else-text-lt48+else-text-lt58 w ↦ (λ h. omega (arith, ltb-true, ltb-false)) ] in
    no_length c.args.text.now c.args.limit (omega arith) no'
