use Rattle.std.proofs.Common.{Err, ap, ◌∙◌}
use Rattle.std.proofs.lemmas.Result.{err_from_is_err_and}
use Rattle.std.specs.Option.{ok_or}
use Rattle.refusal.specs.declared.Refusal.TheVariants.{BadFingerprint}
use Rattle.zemor.proofs.Writing.{others_unread, hex_read, hex_again}
use Rattle.zemor.proofs.matrix.Sl2.from_hex.Goals as goal

pub returns : goal.returns
returns c =
    let text = c.args.text.now in
    let bs = c.in_ok-decode.field-0 in
    let read = c.from_bytes.ensures in
    record {
      value = read.value ∙ ap (λ o. ok_or o BadFingerprint) (hex_read text bs c.in_ok-decode.ensures);
      again = hex_again text bs c.from_bytes.result c.in_ok-decode.ensures read.again;
    }

pub returns-in_err-decode-clause-value : goal.returns-in_err-decode-clause-value
returns-in_err-decode-clause-value c =
    let p = err_from_is_err_and c.from_residual.result c.from_residual.ensures.1 in
    let none = c.in_err-decode.ensures in
    rw (p.1, p.2) (ap Err none.0 ∙ ap (λ o. ok_or o BadFingerprint) (others_unread c.args.text.now none.1))
