use Rattle.std.proofs.Common.{◌≡◌, length, ap, ◌∙◌, arith}
use Rattle.std.specs.List.{take_while}
use Rattle.std.proofs.lemmas.List.{take_rest}
use Rattle.compare.specs.Changes.{before, behind, no_newline}
use Rattle.compare.proofs.Runs.{before_le, behind_le}
use Rattle.compare.proofs.change.lines_of.Goals as goal

pub returns : goal.returns
returns c =
    let text = c.args.text.now in
    let part = c.args.part in
    let front : c.line_before-before.result ≡ before text part.from = c.line_before-before.ensures in
    let back : c.line_behind-behind.result ≡ behind text part.to = c.line_behind-behind.ensures ∙ ap (λ l. length (take_while no_newline l)) (take_rest text part.to) in
    record {
      from = omega (arith, front, before_le text part.from);
      to = omega (arith, back);
      within = omega (arith, back, behind_le text part.to c.requires.within);
    }
