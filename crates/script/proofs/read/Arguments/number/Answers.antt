use Rattle.script.proofs.Parts.{number_at, no_text, no_number}
use Rattle.script.proofs.read.Arguments.number.Goals as goal

pub returns-in_err-value-clause-value : goal.returns-in_err-value-clause-value
returns-in_err-value-clause-value c = rw c.from_residual.ensures (no_text c.args.self.now.inside.now c.args.self.now.at 0 c.in_err-value.ensures.value)

pub returns-in_err-value-2-clause-value : goal.returns-in_err-value-2-clause-value
returns-in_err-value-2-clause-value c =
    rw c.from_residual-in_err-value-2.ensures
    (no_number c.args.self.now.inside.now c.in_ok-value.field-0.value.now c.args.self.now.at c.text.new.self.at 0 c.in_ok-value.ensures.value.stands c.in_err-value-2.ensures)

pub returns-clause-value : goal.returns-clause-value
returns-clause-value c =
    number_at c.args.self.now.inside.now c.in_ok-value.field-0.value.now c.args.self.now.at c.in_ok-value-2.field-0 c.in_ok-value.field-0.at c.text.new.self.at
    c.in_ok-value.ensures.value c.in_ok-value-2.ensures
