use Rattle.std.proofs.Common.{◌≡◌, false, ◌∷◌, [], length, nat_lt, refl, sym, ap, ◌∙◌, subst, arith}
use Rattle.std.proofs.lemmas.Bool.Decides.{nat_tests}
use Rattle.std.proofs.lemmas.Grind.{common_steps}
use Rattle.std.proofs.lemmas.List.{take_rest}
use Rattle.rope_read.specs.Texts.{bad_part}
use Rattle.refusal.specs.Writing.{of_room}
use Rattle.shelf_view.specs.Marked.{fingerprint, in_part, earlier, ReadsBack}
use Rattle.refusal.specs.declared.Refusal.TheVariants.{BadPart, SmallBuffer}
use Rattle.refusal.proofs.Firsts.{first_not}
use Rattle.shelf_view.proofs.Reading.{part_between}
use Rattle.vault.proofs.calls.read_back.Goals.{then-from-to-via-then-from-to, then-from-to-via-else-from-to+then-to-text}
use Rattle.vault.proofs.calls.read_back.Goals as goal

pub returns-then-from-to : goal.returns-then-from-to
returns-then-from-to c =
    elim c.then-from-to.branch [
      | then-from-to-via-then-from-to w ↦ (earlier (grind (arith, common_steps, nat_tests)), refl)
      | then-from-to-via-else-from-to+then-to-text w ↦ (earlier (grind (arith, common_steps, nat_tests)), refl)
    ]

pub returns : goal.returns
returns c =
    let text = c.args.text.now in
    let n = length c.args.out.now in
    let good : bad_part text c.args.from c.args.to ≡ false = grind (arith, common_steps, nat_tests) in
    let whole = part_between text c.args.from c.args.to c.fingerprint-front.result c.fingerprint-back.result c.fingerprint-front.ensures.value (c.fingerprint-back.ensures.value ∙ ap fingerprint (take_rest text c.args.to)) in
    subst (λ why. ReadsBack why (in_part text c.args.from c.args.to) c.args.digits.now c.args.out.now c.read_between.new.out c.read_between.result)
    (sym (first_not BadPart ((nat_lt n 5, SmallBuffer) ∷ []) good))
    (subst (λ f. ReadsBack (of_room 5 n) f c.args.digits.now c.args.out.now c.read_between.new.out c.read_between.result) whole c.read_between.ensures)
