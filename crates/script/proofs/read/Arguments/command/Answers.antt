use Rattle.std.proofs.Common.{arith, refl}
use Rattle.script.specs.declared.command.Word.TheVariants as words
use Rattle.script.proofs.Commands.{none, some, text}
use Rattle.script.proofs.read.Arguments.command.Goals as goal

pub returns-in_err-document-in-Cut-clause-value : goal.returns-in_err-document-in-Cut-clause-value
returns-in_err-document-in-Cut-clause-value c =
    rw c.from_residual-in_err-document-in-Cut.ensures
    (none _ _ c.text.ensures.same _ _ _ _ c.in_ok-text.ensures.value.stands c.in_ok-of.ensures words.Cut c.in-Cut.is refl c.in_err-document-in-Cut.ensures.value)

pub returns-in_ok-document-in-Cut-clause-value : goal.returns-in_ok-document-in-Cut-clause-value
returns-in_ok-document-in-Cut-clause-value c =
    some _ _ c.text.ensures.same _ _ _ _ c.in_ok-text.ensures.value.stands c.in_ok-of.ensures _ c.in_ok-document-in-Cut.field-0 _ c.in-Cut.is refl (omega arith) refl refl c.in_ok-document-in-Cut.ensures.value

pub returns-in_err-document-in-Splice-clause-value : goal.returns-in_err-document-in-Splice-clause-value
returns-in_err-document-in-Splice-clause-value c =
    rw c.from_residual-in_err-document-in-Splice.ensures
    (none _ _ c.text.ensures.same _ _ _ _ c.in_ok-text.ensures.value.stands c.in_ok-of.ensures words.Splice c.in-Splice.is refl c.in_err-document-in-Splice.ensures.value)

pub returns-in_ok-document-in-Splice-clause-value : goal.returns-in_ok-document-in-Splice-clause-value
returns-in_ok-document-in-Splice-clause-value c =
    some _ _ c.text.ensures.same _ _ _ _ c.in_ok-text.ensures.value.stands c.in_ok-of.ensures _ c.in_ok-document-in-Splice.field-0 _ c.in-Splice.is refl (omega arith) refl refl c.in_ok-document-in-Splice.ensures.value

pub returns-in_err-document-in-Mark-clause-value : goal.returns-in_err-document-in-Mark-clause-value
returns-in_err-document-in-Mark-clause-value c =
    rw c.from_residual-in_err-document-in-Mark.ensures
    (none _ _ c.text.ensures.same _ _ _ _ c.in_ok-text.ensures.value.stands c.in_ok-of.ensures words.Mark c.in-Mark.is refl c.in_err-document-in-Mark.ensures.value)

pub returns-in_ok-document-in-Mark-clause-value : goal.returns-in_ok-document-in-Mark-clause-value
returns-in_ok-document-in-Mark-clause-value c =
    some _ _ c.text.ensures.same _ _ _ _ c.in_ok-text.ensures.value.stands c.in_ok-of.ensures _ c.in_ok-document-in-Mark.field-0 _ c.in-Mark.is refl (omega arith) refl refl c.in_ok-document-in-Mark.ensures.value

pub returns-in_err-document-in-Text-clause-value : goal.returns-in_err-document-in-Text-clause-value
returns-in_err-document-in-Text-clause-value c =
    rw c.from_residual-in_err-document-in-Text.ensures
    (none _ _ c.text.ensures.same _ _ _ _ c.in_ok-text.ensures.value.stands c.in_ok-of.ensures words.Text c.in-Text.is refl c.in_err-document-in-Text.ensures.value)

pub returns-in_ok-document-in-Text-clause-value : goal.returns-in_ok-document-in-Text-clause-value
returns-in_ok-document-in-Text-clause-value c =
    some _ _ c.text.ensures.same _ _ _ _ c.in_ok-text.ensures.value.stands c.in_ok-of.ensures _ c.in_ok-document-in-Text.field-0 _ c.in-Text.is refl (omega arith) refl refl c.in_ok-document-in-Text.ensures.value

pub returns-in_ok-text-in-Put-clause-value : goal.returns-in_ok-text-in-Put-clause-value
returns-in_ok-text-in-Put-clause-value c =
    text _ _ c.text.ensures.same _ _ _ _ c.in_ok-text.ensures.value.stands c.in_ok-of.ensures _ _ c.in-Put.is c.in_ok-text-in-Put.ensures.value
