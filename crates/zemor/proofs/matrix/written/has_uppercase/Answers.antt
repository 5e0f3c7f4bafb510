use Rattle.std.proofs.Common.{ap, ◌∙◌, arith}
use Rattle.std.specs.Char.{is_ascii_uppercase}
use Rattle.std.specs.List.{list_any}
use Rattle.std.proofs.lemmas.List.{take_all}
use Rattle.zemor.proofs.matrix.written.has_uppercase.Goals as goal

pub returns : goal.returns
returns c = c.loop-c.invariant.1 ∙ ap (list_any is_ascii_uppercase) (take_all c.loop-c.c-index c.args.text.now (omega arith))
