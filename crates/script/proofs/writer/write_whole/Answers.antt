use Rattle.std.proofs.Common.{◌-◌, length, drop, arith}
use Rattle.std.proofs.lemmas.List.{length-take, length-drop}
use Rattle.script.proofs.Holding.{appends_on}
use Rattle.script.proofs.writer.write_whole.Goals as goal

pub loop-at-preserved : goal.loop-at-preserved
loop-at-preserved g c =
    let bytes = c.args.bytes.now in
    let at = c.loop-at.at in
    record {
      written = appends_on (g.W.Write.contents c.args.out.now) (g.W.Write.contents c.loop-at.out) (g.W.Write.contents c.write_some.new.out) bytes at c.in_ok-n.n c.loop-at.invariant.written c.in_ok-n.ensures.written;
      within = omega (arith, c.in_ok-n.ensures.bound, length-take (length bytes - at) (drop at bytes), length-drop at bytes);
    }
