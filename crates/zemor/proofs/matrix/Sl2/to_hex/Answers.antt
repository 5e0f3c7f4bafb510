use Rattle.std.proofs.Common.{◌≡◌, ap, ◌∙◌}
use Rattle.hex.specs.Hex.{encode_lower}
use Rattle.zemor.specs.Values.{row}
use Rattle.zemor.specs.Written.{hex, bytes_of}
use Rattle.zemor.proofs.Writing.{all_bytes_of, encoded, hex_back}
use Rattle.zemor.proofs.matrix.Sl2.to_hex.Goals as goal

pub returns : goal.returns
returns c =
    let x = row c.args.self in
    let written = rw c.unwrap.ensures at c.encode_to_slice.ensures.written in
    let text : c.encode_to_slice.new.output ≡ hex (bytes_of x) =
    written ∙ ap encode_lower c.to_bytes.ensures.value ∙ encoded (bytes_of x) (all_bytes_of x) in
    record { value = text; back = rw text (hex_back c.args.self) }
