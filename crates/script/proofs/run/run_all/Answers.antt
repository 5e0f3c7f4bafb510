use Rattle.std.proofs.Common.{◌<◌, [], ◌++◌, length, take, refl, subst, arith}
use Rattle.std.proofs.lemmas.Result.{err_from_is_err_and}
use Rattle.std.specs.Io.KnownBytes.{Appends}
use Rattle.script.specs.Answers.Turns.{none, more}
use Rattle.script.specs.Answers.BrokenOff.{within}
use Rattle.script.proofs.Turning.{goes_on, written_part}
use Rattle.script.proofs.Holding.{appends_none, appends_more}
use Rattle.script.proofs.run.run_all.Goals as goal

pub loop-at-init : goal.loop-at-init
loop-at-init g c = record {
  so_far = ([], (none, appends_none (g.W.Write.contents c.args.out.now)));
  room = refl;
}

pub returns-in_err-write_whole-clause-ran : goal.returns-in_err-write_whole-clause-ran
returns-in_err-write_whole-clause-ran g c =
    let p = err_from_is_err_and c.from_residual.result c.from_residual.ensures.1 in
    let so_far = c.loop-at.invariant.so_far in
    let turn = c.turn-len.ensures in
    let old = g.W.Write.contents c.loop-at.out in
    let new = g.W.Write.contents c.write_whole.new.out in
    let cut = c.in_err-write_whole.ensures.written in
    let same = written_part turn.0 c.loop-at.answer c.turn-len.new.out c.turn-len.result.len turn.1.1 in
    let short = subst (λ l. cut.0 < length l) same cut.1 in
    let bytes = subst (λ l. Appends old new (take cut.0 l)) same cut.2 in
    rw p.1 (so_far.0 ++ take cut.0 turn.0, (within so_far.1.0 c.loop-at-test.true turn.1.0 short, appends_more (g.W.Write.contents c.args.out.now) old new so_far.0 (take cut.0 turn.0) so_far.1.1 bytes))

pub loop-at-smaller : goal.loop-at-smaller
loop-at-smaller g c =
    let turn = c.turn-len.ensures in
    omega (arith, goes_on c.args.script.now c.loop-at.at c.loop-at.shelf turn.0 c.turn-len.result.next c.turn-len.new.shelf c.loop-at-test.true turn.1.0)

pub loop-at-preserved : goal.loop-at-preserved
loop-at-preserved g c =
    let so_far = c.loop-at.invariant.so_far in
    let turn = c.turn-len.ensures in
    let old = g.W.Write.contents c.loop-at.out in
    let new = g.W.Write.contents c.write_whole.new.out in
    let bytes = subst (Appends old new) (written_part turn.0 c.loop-at.answer c.turn-len.new.out c.turn-len.result.len turn.1.1) c.in_ok-write_whole.ensures.written in
    record {
      so_far = (so_far.0 ++ turn.0, (more so_far.1.0 c.loop-at-test.true turn.1.0, appends_more (g.W.Write.contents c.args.out.now) old new so_far.0 turn.0 so_far.1.1 bytes));
      room = omega (arith, c.loop-at.invariant.room);
    }
