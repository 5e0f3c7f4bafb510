use Rattle.std.proofs.Common.{subst}
use Rattle.std.proofs.lemmas.Result.{err_from_is_err_and}
use Rattle.shelf_view.specs.State.{shown}
use Rattle.text_shelf.specs.Shelves.{parts, shelved, brought, measures}
use Rattle.text_shelf.specs.Spans.{Spans}
use Rattle.text_shelf.proofs.Editing.{part_told, cut_told, spans}
use Rattle.text_shelf.proofs.Reasoning.{cut_refused}
use Rattle.text_shelf.proofs.shelf.Shelf.cut_part.Goals as goal

pub returns-in_err-part : goal.returns-in_err-part
returns-in_err-part g c =
    let s = parts c.args.self.now in
    let v = shown c.view.result in
    let whole = c.in_ok-whole.ensures in
    let p = err_from_is_err_and c.from_residual-in_err-part.result c.from_residual-in_err-part.ensures.1 in
    rw (p.1, p.2)
    (cut_refused (brought s) (measures s) v (shelved s) c.view.ensures c.args.d c.args.from c.args.to _
    (part_told v c.args.d whole.1 whole.0 c.text.result c.text.ensures.value c.args.from c.args.to c.in_err-part.ensures))

pub returns-in_err-memory_for : goal.returns-in_err-memory_for
returns-in_err-memory_for g c =
    let p = err_from_is_err_and c.from_residual-in_err-memory_for.result c.from_residual-in_err-memory_for.ensures.1 in
    rw (p.1, p.2)
    (cut_told (shown c.view.result) c.args.d c.in_ok-whole.ensures.1 c.text.result c.in_ok-part.part c.text.ensures.place c.text.ensures.bounds c.text.ensures.value
    c.args.from c.args.to c.in_ok-part.ensures.1 c.in_ok-part.ensures.0 c.args.self.now c.view.ensures c.in_ok-whole.ensures.0 _ c.height.ensures.value _ c.edit_need.ensures _ c.in_err-memory_for.ensures)

pub returns : goal.returns
returns g c = (
  cut_told (shown c.view.result) c.args.d c.in_ok-whole.ensures.1 c.text.result c.in_ok-part.part c.text.ensures.place c.text.ensures.bounds c.text.ensures.value
      c.args.from c.args.to c.in_ok-part.ensures.1 c.in_ok-part.ensures.0 c.args.self.now c.view.ensures c.in_ok-whole.ensures.0 _ c.height.ensures.value _ c.edit_need.ensures _ c.in_ok-memory_for.ensures.0,
  subst (λ z. Spans g.M.Monoid.model z c.args.d c.args.from c.args.to c.span.result) c.view.ensures
      (spans (shown c.view.result) c.args.d c.in_ok-whole.ensures.1 c.text.result c.in_ok-part.part c.text.ensures.place c.text.ensures.bounds c.text.ensures.value
      c.args.from c.args.to c.in_ok-part.ensures.1 c.in_ok-part.ensures.0 c.span.result c.span.ensures),
)
