use Rattle.std.proofs.Common.{◌++◌, ◌-◌, ◌≡◌, ◌≤◌, ◌+◌, length, drop, ap, arith, length-append}
use Rattle.std.proofs.lemmas.List.{length-take, length-drop}
use Rattle.script.specs.declared.limits.TheConstants.{MOST_ANSWER}
use Rattle.script.specs.Answers.Turns.{none}
use Rattle.script.specs.Answers.TurnsIn.{last}
use Rattle.script.proofs.Turning.{goes_on, ends_within, all_turns}
use Rattle.script.proofs.Writing.{lent}
use Rattle.script.proofs.run.run_into.Goals as goal

pub loop-all-init : goal.loop-all-init
loop-all-init c =
    let turn = c.turn-all.ensures in
    record {
      so_far = (turn.0, (last none (omega arith) turn.1.0, turn.1.1));
      within = ends_within c.args.script.now c.args.at c.args.shelf.now turn.0 c.turn-all.result.next c.turn-all.new.shelf turn.1.0;
    }

pub loop-all-smaller : goal.loop-all-smaller
loop-all-smaller c =
    let turn = c.turn-len.ensures in
    omega (arith, goes_on c.args.script.now c.loop-all.all.next c.loop-all.shelf turn.0 c.turn-len.result.next c.turn-len.new.shelf c.loop-all-test.true turn.1.0)

pub loop-all-preserved : goal.loop-all-preserved
loop-all-preserved c =
    let so_far = c.loop-all.invariant.so_far in
    let turn = c.turn-len.ensures in
    let wrote = turn.1.1 in
    let b = c.loop-all.out in
    let at = c.loop-all.all.len in
    let n = c.turn-len.result.len in
    let was = c.args.out.now in
    let held = so_far.1.1 in
    let same : length b ≡ length was = omega (arith, held.0, held.1, ap length held.2, length-append so_far.0 (drop at was), length-drop at was) in
    let left : length so_far.0 + MOST_ANSWER ≤ length was = omega (arith, c.if-out-all-ge-MOST_ANSWER.true, held.0, same) in
    let room : at + n ≤ length b = omega (arith, wrote.1, held.1, same, length-take (length b - at) (drop at b), length-drop at b) in
    record {
      so_far = (
        so_far.0 ++ turn.0,
        (last (all_turns so_far.1.0 c.loop-all-test.true) left turn.1.0, lent so_far.0 was b c.turn-len.new.out turn.0 at n held room wrote),
      );
      within = ends_within c.args.script.now c.loop-all.all.next c.loop-all.shelf turn.0 c.turn-len.result.next c.turn-len.new.shelf turn.1.0;
    }
