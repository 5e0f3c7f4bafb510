use Rattle.std.proofs.Common.{ap, arith}
use Rattle.rope.specs.Tree.{height}
use Rattle.rope_join.proofs.Steps.{down_left_joinable, down_left_rest, down_left_near, down_left_done}
use Rattle.rope_join.proofs.Steps.{down_right_joinable, down_right_rest, down_right_near, down_right_done}
use Rattle.rope_join.proofs.+join.Goals as goal

pub join-t-requires : goal.join-t-requires
join-t-requires g t c κs within =
    let high = ap height c.children-a.ensures.tree in
    (omega (arith, c.decreases), (within.0, (within.1, (down_left_joinable c.requires c.children-a.ensures (omega (arith, c.gap.ensures))))))

pub balance-requires : goal.balance-requires
balance-requires g t c =
    let t = c.join-t.ensures in
    record { joinable = down_left_rest c.requires c.children-a.ensures (omega (arith, c.gap.ensures)) t; near = down_left_near c.requires c.children-a.ensures (omega (arith, c.gap.ensures)) t }

pub returns-then-gap-gt1 : goal.returns-then-gap-gt1
returns-then-gap-gt1 g t c = down_left_done c.requires c.children-a.ensures (omega (arith, c.gap.ensures)) c.join-t.ensures c.balance.ensures

pub join-t-requires-then-gap-gt1-2 : goal.join-t-requires-then-gap-gt1-2
join-t-requires-then-gap-gt1-2 g t c κs within =
    let high = ap height c.children-a-then-gap-gt1-2.ensures.tree in
    (omega (arith, c.decreases), (within.0, (within.1, (down_right_joinable c.requires c.children-a-then-gap-gt1-2.ensures (omega (arith, c.gap-2.ensures))))))

pub balance-requires-then-gap-gt1-2 : goal.balance-requires-then-gap-gt1-2
balance-requires-then-gap-gt1-2 g t c =
    let t = c.join-t-then-gap-gt1-2.ensures in
    record { joinable = down_right_rest c.requires c.children-a-then-gap-gt1-2.ensures (omega (arith, c.gap-2.ensures)) t; near = down_right_near c.requires c.children-a-then-gap-gt1-2.ensures (omega (arith, c.gap-2.ensures)) t }

pub returns-then-gap-gt1-2 : goal.returns-then-gap-gt1-2
returns-then-gap-gt1-2 g t c = down_right_done c.requires c.children-a-then-gap-gt1-2.ensures (omega (arith, c.gap-2.ensures)) c.join-t-then-gap-gt1-2.ensures c.balance-then-gap-gt1-2.ensures
