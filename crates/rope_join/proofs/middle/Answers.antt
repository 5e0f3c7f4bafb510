use Rattle.rope_join.proofs.Steps.{middle_one, middle_two, middle_three, middled}
use Rattle.rope_join.proofs.middle.Goals as goal

pub push_inner-l-requires : goal.push_inner-l-requires
push_inner-l-requires g c = middle_one c.requires c.children-c.ensures

pub push_inner-r-requires : goal.push_inner-r-requires
push_inner-r-requires g c = middle_two c.requires c.children-c.ensures c.push_inner-l.ensures

pub push_inner-requires : goal.push_inner-requires
push_inner-requires g c =
    middle_three c.requires c.children-c.ensures c.push_inner-l.ensures c.push_inner-r.ensures

pub returns : goal.returns
returns g c = middled c.requires c.children-c.ensures c.push_inner-l.ensures c.push_inner-r.ensures c.push_inner.ensures
