use Rattle.text_shelf.specs.Steps.{made, done, sealed}
use Rattle.shelf_promise.proofs.Hands.{five, five_untouched, cut_refused, own_back}
use Rattle.shelf_promise.proofs.by_hand.by_hand.Goals as goal

pub returns : goal.returns
returns g c = record {
  reached = rw c.id-opened.ensures (five _ _ _ _ _ c.new-shelf.result c.open.new.self c.add-added.new.shelf c.put-put.new.self c.cut-cut.new.self c.seal-sealed.new.shelf
      c.new-shelf.ensures c.in-Ok.draft.id c.args.text (done c.add-added.result) (made c.put-put.result) (made c.cut-cut.result) (sealed c.seal-sealed.result)
      c.in-Ok.ensures c.add-added.ensures c.put-put.ensures c.cut-cut.ensures c.seal-sealed.ensures.step);
  untouched = five_untouched _ _ _ _ _ c.new-shelf.result c.open.new.self c.add-added.new.shelf c.put-put.new.self c.cut-cut.new.self c.seal-sealed.new.shelf
      c.new-shelf.ensures c.in-Ok.draft.id c.args.text _ (done c.add-added.result) (made c.put-put.result) (made c.cut-cut.result) (sealed c.seal-sealed.result)
      c.in-Ok.ensures c.add-added.ensures c.put-put.ensures c.cut-cut.ensures c.seal-sealed.ensures.step;
  refused = cut_refused c.put-put.new.self c.cut-cut.new.self c.cut-cut.result c.cut-cut.ensures;
  back = own_back c.in-Ok.draft c.id-opened.result c.seal-sealed.result c.id-opened.ensures c.seal-sealed.ensures.back;
}
