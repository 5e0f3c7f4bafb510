use Rattle.std.proofs.Common.{arith}
use Rattle.rope_join.proofs.Steps.{right_threes, right_doubled, right_one, right_two, right_done}
use Rattle.rope_join.proofs.turn_right.Goals as goal

pub middle-requires : goal.middle-requires
middle-requires g c = right_threes c.requires.joinable c.children-a.ensures c.requires.heavy (omega (arith, c.gap.ensures))

pub returns-then-gap-gt0 : goal.returns-then-gap-gt0
returns-then-gap-gt0 g c = right_doubled c.requires.joinable c.children-a.ensures c.requires.heavy (omega (arith, c.gap.ensures)) c.middle.ensures

pub push_inner-r-requires : goal.push_inner-r-requires
push_inner-r-requires g c = right_one c.requires.joinable c.children-a.ensures c.requires.heavy (omega (arith, c.gap.ensures))

pub push_inner-requires : goal.push_inner-requires
push_inner-requires g c = right_two c.requires.joinable c.children-a.ensures c.requires.heavy (omega (arith, c.gap.ensures)) c.push_inner-r.ensures

pub returns : goal.returns
returns g c = right_done c.requires.joinable c.children-a.ensures c.requires.heavy (omega (arith, c.gap.ensures)) c.push_inner-r.ensures c.push_inner.ensures
