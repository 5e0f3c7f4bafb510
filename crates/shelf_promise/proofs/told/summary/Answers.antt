use Rattle.std.proofs.Common.{Ok, Err, ap, ◌∙◌, subst}
use Rattle.std.proofs.lemmas.Result.{err_from_is_err_and}
use Rattle.monoid.specs.Monoid.{fold_of}
use Rattle.shelf_view.specs.State.{shown, state_of}
use Rattle.shelf_view.proofs.Placing.{document_text}
use Rattle.text_shelf.specs.Calls.{every_shelf}
use Rattle.shelf_promise.specs.Promises.{DocumentFolds}
use Rattle.shelf_promise.proofs.Running.{tells}
use Rattle.shelf_promise.proofs.told.summary.Goals as goal

pub returns-in_err-document : goal.returns-in_err-document
returns-in_err-document g c =
    let m = g.M.Monoid.model in
    let p = err_from_is_err_and c.from_residual.result c.from_residual.ensures.1 in
    let told = DocumentFolds m c.args.d (Err c.in_err-document.field-0.0) in
    rw (p.1, p.2) (tells every_shelf c.args.shelf.now told (subst (λ z. told (state_of z)) c.view.ensures c.in_err-document.ensures))

pub returns : goal.returns
returns g c =
    let m = g.M.Monoid.model in
    let document = c.in_ok-document.ensures in
    let read = shown c.view.result in
    let told = DocumentFolds m c.args.d (Ok c.summary.result) in
    tells every_shelf c.args.shelf.now told
    (subst (λ z. told (state_of z)) c.view.ensures (document.0, c.summary.ensures.value ∙ ap (fold_of m) (document_text {s = read} document.1)))
