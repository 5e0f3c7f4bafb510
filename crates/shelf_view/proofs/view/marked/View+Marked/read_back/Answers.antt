use Rattle.std.proofs.Common.{[], ◌∷◌, length, refl, ◌∙◌, arith, sym, subst, nat_lt}
use Rattle.std.proofs.lemmas.Result.{err_from_is_err_and}
use Rattle.refusal.specs.Refusals.{Reasons}
use Rattle.refusal.specs.Writing.{of_room}
use Rattle.std.proofs.lemmas.Slice.{between_from_start, between_to_end}
use Rattle.rope_read.specs.Texts.{bad_part, bytes_in}
use Rattle.shelf_view.specs.State.{shown, strings_shown, text_at, unknown}
use Rattle.shelf_view.specs.Marked.{in_part, earlier, ReadsBack}
use Rattle.refusal.specs.declared.Refusal.TheVariants.{NoDocument, BadPart, SmallBuffer}
use Rattle.refusal.proofs.Firsts.{first_stays}
use Rattle.shelf_view.proofs.Placing.{document_text}
use Rattle.shelf_view.proofs.Reading.{around_part, part_is, room_is, unread_as}
use Rattle.shelf_view.proofs.view.marked.View+Marked.read_back.Goals as goal

pub returns-in_err-document : goal.returns-in_err-document
returns-in_err-document c =
    let s = strings_shown c.args.self.now in
    let rest = (bad_part (text_at s c.args.d) c.args.a c.args.b, BadPart) ∷ (nat_lt (length c.args.out.now) 5, SmallBuffer) ∷ [] in
    let p = err_from_is_err_and c.from_residual.result c.from_residual.ensures.1 in
    rw (p.1, p.2) (earlier (first_stays ((unknown s c.args.d, NoDocument) ∷ []) rest _ c.in_err-document.ensures), refl)

pub returns-in_err-front : goal.returns-in_err-front
returns-in_err-front c =
    let s = strings_shown c.args.self.now in
    let text = c.text.ensures.value ∙ document_text c.in_ok-document.ensures.1 in
    let part : Reasons = (unknown s c.args.d, NoDocument) ∷ (bad_part (text_at s c.args.d) c.args.a c.args.b, BadPart) ∷ [] in
    let p = err_from_is_err_and c.from_residual-in_err-front.result c.from_residual-in_err-front.ensures.1 in
    rw (p.1, p.2) (
      earlier (first_stays part ((nat_lt (length c.args.out.now) 5, SmallBuffer) ∷ []) _
          (part_is s c.args.d c.args.a c.args.b (bytes_in c.text.result) text c.in_ok-document.ensures.0 ∙ c.in_err-front.ensures)),
      refl,
    )

pub returns-in_err-whole : goal.returns-in_err-whole
returns-in_err-whole c =
    let s = strings_shown c.args.self.now in
    let text = c.text.ensures.value ∙ document_text c.in_ok-document.ensures.1 in
    let p = err_from_is_err_and c.from_residual-in_err-whole.result c.from_residual-in_err-whole.ensures.1 in
    let room = room_is s c.args.d c.args.a c.args.b (length c.args.out.now) (bytes_in c.text.result) text c.in_ok-document.ensures.0 c.in_ok-front.ensures.0 in
    rw (p.1, p.2) (unread_as room (c.in_err-whole.ensures.refused (in_part (text_at s c.args.d) c.args.a c.args.b)), refl)

pub returns : goal.returns
returns c =
    let s = strings_shown c.args.self.now in
    let old = c.args.out.now in
    let digits = c.args.fingerprint.now in
    let text = c.text.ensures.value ∙ document_text c.in_ok-document.ensures.1 in
    let sides = c.in_ok-front.ensures in
    let whole =
    around_part (shown c.args.self.now) c.args.d c.args.a c.args.b (bytes_in c.text.result) text c.in_ok-front.front c.in_ok-front.back c.summary.result c.summary-2.result
    c.summary.ensures c.summary-2.ensures
    (sides.1.before.bytes ∙ between_from_start (bytes_in c.text.result) c.args.a)
    (sides.1.behind.bytes ∙ between_to_end (bytes_in c.text.result) c.args.b (length (bytes_in c.text.result)) (omega arith)) in
    subst (λ why. ReadsBack why (in_part (text_at s c.args.d) c.args.a c.args.b) digits old c.write_between.new.out c.write_between.result)
    (room_is s c.args.d c.args.a c.args.b (length old) (bytes_in c.text.result) text c.in_ok-document.ensures.0 sides.0)
    (subst (λ f. ReadsBack (of_room 5 (length old)) f digits old c.write_between.new.out c.write_between.result) whole (c.write_between.ensures digits c.in_ok-whole.ensures.found.1))
