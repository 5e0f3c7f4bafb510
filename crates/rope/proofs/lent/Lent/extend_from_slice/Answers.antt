use Rattle.std.proofs.Common.{◌≡◌, ◌+◌, ◌-◌, ◌++◌, length, take, drop, refl, ap, ◌∙◌, arith, length-drop, length-take}
use borrow.Rule.Slice.PartMut.{same_len_mid}
use Rattle.std.proofs.lemmas.Slice.{take-put_mid, take-put_mid_below, drop-put_mid}
use Rattle.rope.proofs.lent.Lent.extend_from_slice.Goals as goal

pub returns-clause-gains : goal.returns-clause-gains
returns-clause-gains g c =
    let u = c.args.self.now.used in
    let bs = c.args.items.now in
    let was = c.args.self.now.memory.now in
    let n = u + length bs - u in
    let part = c.copy_from_slice.new.self in
    let copied : part ≡ bs = c.copy_from_slice.ensures.after in
    let long : length part ≡ n = omega (arith, ap length copied) in
    let within = c.args.self.now.within in
    record {
      used = refl;
      held_are = take-put_mid u n was part (u + length bs) (omega (arith, ap length copied)) within ∙ ap (λ x. take u was ++ x) copied;
      fills = record {
        more = omega arith;
        room = same_len_mid u n was part (omega (arith, ap length copied, length-take n (drop u was), length-drop u was, c.requires));
        before = take-put_mid_below u n was part u (omega arith) within;
        behind = drop-put_mid u n was part (u + length bs) (omega arith) within long;
      };
    }
