use Rattle.std.proofs.Common.{◌≡◌, ◌∙◌, rules, subst}
use Rattle.std.specs.Fmt.{formatter_spec, padded, WritesStyledOnOk}
use Rattle.std.specs.Str.{IsUtf8}
use Rattle.zemor.proofs.Writing.{hex_text}
use Rattle.zemor.proofs.matrix.written.Sl2Display.fmt.Goals as goal

pub unwrap-requires : goal.unwrap-requires
unwrap-requires g c = let text : IsUtf8 c.to_hex-digits.result = rw c.to_hex-digits.ensures.value (hex_text c.args.self.now) in search rules

pub returns-clause-styled : goal.returns-clause-styled
returns-clause-styled g c =
    let same : c.unwrap.result.now ≡ c.to_hex-digits.result = search rules in
    subst (λ text. WritesStyledOnOk g.W.Write.write_str_gives c.args.f.now c.pad.result (padded (formatter_spec c.args.f.now) text) c.pad.new.self)
    (same ∙ c.to_hex-digits.ensures.value) c.pad.ensures.styled
