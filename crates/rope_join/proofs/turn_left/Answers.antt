use Rattle.std.proofs.Common.{arith}
use Rattle.rope_join.proofs.Steps.{left_threes, left_doubled, left_one, left_two, left_done}
use Rattle.rope_join.proofs.turn_left.Goals as goal

pub middle-requires : goal.middle-requires
middle-requires g c = left_threes c.requires.joinable c.children-a.ensures c.requires.heavy (omega (arith, c.gap.ensures))

pub returns-then-gap-gt0 : goal.returns-then-gap-gt0
returns-then-gap-gt0 g c = left_doubled c.requires.joinable c.children-a.ensures c.requires.heavy (omega (arith, c.gap.ensures)) c.middle.ensures

pub push_inner-l-requires : goal.push_inner-l-requires
push_inner-l-requires g c = left_one c.requires.joinable c.children-a.ensures c.requires.heavy (omega (arith, c.gap.ensures))

pub push_inner-requires : goal.push_inner-requires
push_inner-requires g c = left_two c.requires.joinable c.children-a.ensures c.requires.heavy (omega (arith, c.gap.ensures)) c.push_inner-l.ensures

pub returns : goal.returns
returns g c = left_done c.requires.joinable c.children-a.ensures c.requires.heavy (omega (arith, c.gap.ensures)) c.push_inner-l.ensures c.push_inner.ensures
