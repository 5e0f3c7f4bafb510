use Rattle.std.proofs.Common.{subst}
use Rattle.std.proofs.lemmas.Result.{err_from_is_err_and}
use Rattle.shelf_view.specs.State.{shown}
use Rattle.shelf_view.specs.Places.{Lies}
use Rattle.text_shelf.specs.Shelves.{parts, shelved, brought, measures}
use Rattle.text_shelf.specs.Spans.{Spans}
use Rattle.text_shelf.proofs.Editing.{part_told, spans, splice_told}
use Rattle.text_shelf.proofs.Reasoning.{splice_part}
use Rattle.text_shelf.proofs.shelf.Shelf.splice_parts.Goals as goal

pub returns-in_err-part : goal.returns-in_err-part
returns-in_err-part g c =
    let s = parts c.args.self.now in
    let v = shown c.view-view.result in
    let same = c.view-view.ensures in
    let one = c.in_ok-whole.ensures in
    let two = c.in_ok-more.ensures in
    let p = err_from_is_err_and c.from_residual-in_err-part.result c.from_residual-in_err-part.ensures.1 in
    rw (p.1, p.2) (splice_part (brought s) (measures s) v (shelved s) same c.args.d c.args.from c.args.to c.args.other one.0 two.0 _
    (part_told v c.args.d one.1 one.0 c.text.result c.text.ensures.value c.args.from c.args.to c.in_err-part.ensures))

pub returns-in_err-check_new_document : goal.returns-in_err-check_new_document
returns-in_err-check_new_document g c =
    let p = err_from_is_err_and c.from_residual-in_err-check_new_document.result c.from_residual-in_err-check_new_document.ensures.1 in
    rw (p.1, p.2)
    (splice_told (shown c.view-view.result) c.args.d c.in_ok-whole.ensures.1 c.text.result c.in_ok-part.part c.text.ensures.place c.text.ensures.bounds c.text.ensures.value
    c.args.from c.args.to c.in_ok-part.ensures.1 c.in_ok-part.ensures.0 c.args.self.now c.view-view.ensures c.args.other c.in_ok-more.ensures.1
    c.in_ok-whole.ensures.0 c.in_ok-more.ensures.0 _ _ _ c.len.ensures c.len-2.ensures c.len-3.ensures _ _ _ c.max-high.ensures c.height.ensures.value c.height-2.ensures.value
    _ c.edit_need.ensures _ c.in_err-check_new_document.ensures)

pub returns : goal.returns
returns g c = (
  splice_told (shown c.view-view.result) c.args.d c.in_ok-whole.ensures.1 c.text.result c.in_ok-part.part c.text.ensures.place c.text.ensures.bounds c.text.ensures.value
      c.args.from c.args.to c.in_ok-part.ensures.1 c.in_ok-part.ensures.0 c.args.self.now c.view-view.ensures c.args.other c.in_ok-more.ensures.1
      c.in_ok-whole.ensures.0 c.in_ok-more.ensures.0 _ _ _ c.len.ensures c.len-2.ensures c.len-3.ensures _ _ _ c.max-high.ensures c.height.ensures.value c.height-2.ensures.value
      _ c.edit_need.ensures _ c.in_ok-check_new_document.ensures.0,
  (
    subst (λ z. Spans g.M.Monoid.model z c.args.d c.args.from c.args.to c.span.result) c.view-view.ensures
        (spans (shown c.view-view.result) c.args.d c.in_ok-whole.ensures.1 c.text.result c.in_ok-part.part c.text.ensures.place c.text.ensures.bounds c.text.ensures.value
        c.args.from c.args.to c.in_ok-part.ensures.1 c.in_ok-part.ensures.0 c.span.result c.span.ensures),
    subst (λ z. Lies g.M.Monoid.model z c.args.other c.root.result) c.view-view.ensures (rw c.root.ensures c.in_ok-more.ensures.1.lies),
  ),
)
