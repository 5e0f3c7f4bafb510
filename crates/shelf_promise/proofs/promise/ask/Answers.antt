use Rattle.shelf_view.specs.Marked.{marked}
use Rattle.shelf_promise.proofs.Running.{kept}
use Rattle.shelf_promise.proofs.Telling.{marked_lawful}
use Rattle.shelf_promise.proofs.promise.ask.Goals as goal

pub returns : goal.returns
returns g c =
    let one = c.args.one.now in
    let other = c.args.other.now in
    record {
      summaries = λ b calls answers h. (
        kept g.M.Monoid.model g.met.M.Monoid.lawful h c.args.shelf.now.store.summed,
        (c.summary.ensures b calls answers h, c.part_summary.ensures b calls answers h),
      );
      slips = λ b calls answers h. (
        kept marked marked_lawful h one.store.summed,
        λ b2 calls2 answers2 k. (kept marked marked_lawful k other.store.summed, c.fingerprints.ensures b calls answers h b2 calls2 answers2 k),
      );
      window = λ b calls answers h. (kept marked marked_lawful h one.store.summed, c.read_back.ensures b calls answers h);
    }
