use Rattle.std.proofs.Common.{refl, arith}
use Rattle.std.proofs.lemmas.List.Edits.{length-between}
use Rattle.rope.specs.Arena.{text_of}
use Rattle.rope.specs.Memory.{seen}
use Rattle.rope_read.specs.Texts.{bytes_in}
use Rattle.rope_read.proofs.Slices.{part_of_part, lawful_bounds}
use Rattle.rope_read.proofs.text.Text.part.Goals as goal

pub returns : goal.returns
returns g c =
    let t = c.args.self in
    let xs = text_of (seen t.view) t.root in (
      lawful_bounds (bytes_in t) c.args.a c.args.b c.if-a-b.false (omega arith),
      record {
        view = refl;
        root = refl;
        from = refl;
        to = refl;
        bytes = part_of_part xs t.from t.to c.args.a c.args.b (omega (arith, length-between xs t.from t.to t.within));
      },
    )
