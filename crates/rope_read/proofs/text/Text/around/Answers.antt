use Rattle.std.proofs.Common.{refl, arith}
use Rattle.std.proofs.lemmas.List.Edits.{length-between}
use Rattle.rope.specs.Arena.{text_of}
use Rattle.rope.specs.Memory.{seen}
use Rattle.rope_read.specs.Texts.{bytes_in}
use Rattle.rope_read.proofs.Slices.{before_of_part, behind_of_part, bounds_lawful}
use Rattle.rope_read.proofs.text.Text.around.Goals as goal

pub returns : goal.returns
returns g c =
    let t = c.args.self in
    let xs = text_of (seen t.view) t.root in
    let none = c.in_ok-part.ensures.0 in
    let lawful = bounds_lawful (bytes_in t) c.args.a c.args.b none in
    let long = length-between xs t.from t.to t.within in (
      none,
      record {
        before = record { view = refl; root = refl; from = omega arith; to = refl; bytes = before_of_part xs t.from t.to c.args.a (omega arith) };
        behind = record {
          view = refl;
          root = refl;
          from = refl;
          to = omega (arith, long, t.ordered);
          bytes = behind_of_part xs t.from t.to c.args.b t.ordered t.within (omega arith);
        };
      },
    )
