use Rattle.std.proofs.Common.{◌≡◌, ◌+◌, ◌-◌, ◌≤◌, length, drop, refl, sym, ◌∙◌, arith}
use Rattle.std.proofs.lemmas.Bool.{true≢false}
use Rattle.std.proofs.lemmas.Bool.Decides.{Decides-eqb}
use Rattle.std.proofs.lemmas.Slice.Eq.{slice_eq-Decides}
use Rattle.std.proofs.lemmas.List.{length-drop, take_rest}
use Rattle.compare.specs.Changes.{back_of}
use Rattle.compare.proofs.Runs.{back_le}
use Rattle.compare.proofs.Common.{replaced}
use Rattle.compare.proofs.change.difference.Goals as goal

pub returns : goal.returns
returns c =
    let from = c.common_front-from.result in
    let old = c.args.old.now in
    let new = c.args.new.now in
    let value : c.common_back-back.result ≡ back_of (drop from old) (drop from new) = c.common_back-back.ensures.value ∙ (λ k. back_of (take_rest old from k) (take_rest new from k)) in
    let back = back_le (drop from old) (drop from new) in
    let front = c.common_front-from.ensures in
    let k = c.common_back-back.result in
    let old_to : (length old - k) + back_of (drop from old) (drop from new) ≡ length old = omega (arith, value, back.0, length-drop from old, front.first) in
    let new_to : (length new - k) + back_of (drop from old) (drop from new) ≡ length new = omega (arith, value, back.1, length-drop from new, front.second) in
    let old_part : from ≤ length old - k = omega (arith, value, back.0, length-drop from old, front.first) in
    let new_part : from ≤ length new - k = omega (arith, value, back.1, length-drop from new, front.second) in
    record {
      differ = λ same. true≢false (sym ((slice_eq-Decides Decides-eqb old new c.eq.result c.eq.ensures).1 same) ∙ c.if-eq.false);
      old_from = front.value;
      new_from = refl;
      old_to = old_to;
      new_to = new_to;
      old_part = old_part;
      new_part = new_part;
      replaced = replaced old new from (length old - k) (length new - k) front.value old_to new_to old_part new_part;
    }
