use Rattle.std.proofs.Common.{ap, ◌∙◌, arith, length-append}
use Rattle.monoid.specs.LineColumnValues.{line_column_model}
use Rattle.monoid.specs.declared.pair.Pair.{Pair}
use Rattle.monoid.specs.declared.line_column.LineColumn.{LineColumn}
use Rattle.monoid.proofs.Folds.{joined_folds}
use Rattle.monoid.proofs.Pairs.{fold_pair}
use Rattle.monoid.specs.LineColumnLaws as lines
use Rattle.zemor.specs.Values.{sl2}
use Rattle.zemor.specs.declared.matrix.Sl2.{Sl2}
use Rattle.zemor.specs.Laws as zemor
use Rattle.fingerprint.proofs.stream.Stream.add.Goals as goal

pub returns : goal.returns
returns c text s =
    let chunk = c.args.chunk.now in
    let folds = c.fold.ensures.value ∙ fold_pair sl2 line_column_model chunk in
    let first : Pair Sl2 LineColumn → Sl2 = λ p. p.first in
    let second : Pair Sl2 LineColumn → LineColumn = λ p. p.second in
    record {
      first = joined_folds sl2 zemor.lawful text chunk s.first (ap first folds) (ap first c.join-self.ensures);
      second = joined_folds line_column_model lines.lawful text chunk s.second (ap second folds) (ap second c.join-self.ensures);
      count = simp length-append (omega (arith, c.saturating_add-self.ensures, s.count));
    }
