use Rattle.std.proofs.Common.{take}
use Rattle.text_shelf.specs.Calls.{every_shelf}
use Rattle.text_shelf.specs.Shelves.{parts}
use Rattle.text_shelf.proofs.Reaching.{fresh_more, fresh_untouched}
use Rattle.text_shelf.proofs.replay.replay.Goals as goal

pub returns : goal.returns
returns g c =
    let f = c.new-shelf.ensures in
    let s = c.new-shelf.result in
    let t = c.run-calls.new.shelf in
    let n = c.run-calls.result in
    let ran = c.run-calls.ensures in
    record {
      count = ran.count;
      reached = fresh_more s _ _ _ _ _ f every_shelf (take n c.args.calls.now) (take n c.run-calls.new.answers) t ran.went;
      behind = ran.behind;
      untouched = fresh_untouched s _ _ _ _ _ f (parts t) ran.spares;
      draft = c.token-draft.ensures;
    }
