use Rattle.std.proofs.Common.{ap, ◌∙◌, subst, sym}
use Rattle.std.specs.Option.{ok_or}
use Rattle.refusal.specs.declared.Refusal.TheVariants.{BadFingerprint}
use Rattle.zemor.specs.Values.{sl2}
use Rattle.zemor.specs.Written.{ReadBytes}
use Rattle.zemor.proofs.Writing.{bytes_again}
use Rattle.zemor.proofs.matrix.Sl2.from_bytes.Goals as goal

pub returns : goal.returns
returns c =
    let read = c.read_entries.ensures in
    let value = c.check_row.ensures ∙ ap sl2.check_row read.value in
    let is = c.ok_or.ensures.value in
    record {
      value = is ∙ ap (λ o. ok_or o BadFingerprint) value;
      again = subst (ReadBytes c.args.bytes) (sym is) (bytes_again c.args.bytes c.check_row.result read.typed.0 read.typed.1 value);
    }
