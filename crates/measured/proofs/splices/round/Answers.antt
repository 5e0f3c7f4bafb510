use Rattle.std.proofs.Common.{◌≡◌, ap, ◌∙◌}
use Rattle.rope_read.specs.Texts.{whole_bytes}
use Rattle.shelf_view.specs.State.{state_of, text_at}
use Rattle.shelf_view.specs.Marked.{fingerprint}
use Rattle.shelf_view.proofs.Marking.{first_half}
use Rattle.shelf_view.proofs.Placing.{document_text}
use Rattle.measured.specs.Stamps.{stamped}
use Rattle.measured.proofs.Stamping.{whole}
use Rattle.measured.proofs.splices.round.Goals as goal

pub returns : goal.returns
returns c =
    let build = c.args.build.now in
    let newest = c.in_ok-newest.ensures in
    let document = c.in_ok-document.field-0 in
    let same : whole_bytes document ≡ stamped build c.args.places.now =
    document_text c.in_ok-document.ensures.1 ∙ ap (λ z. text_at (state_of z) c.in_ok-newest.newest) c.view.ensures ∙ newest.1.1
    ∙ ap (λ b. stamped b c.args.places.now) (whole build c.shelf-shelf.result.store.build.now c.shelf-shelf.ensures.build_text newest.0) in
    first_half (whole_bytes document) c.summary.result c.summary.ensures.value ∙ ap fingerprint same
