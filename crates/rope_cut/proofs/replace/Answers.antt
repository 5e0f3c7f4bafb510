use Rattle.rope_cut.proofs.Roots.{second_rooted, second_within, second_free, tail_rooted, tail_short, tail_free, last_rooted, last_short, last_free, replaced}
use Rattle.rope_cut.proofs.replace.Goals as goal

pub back-behind-requires : goal.back-behind-requires
back-behind-requires g c =
    record {
      rooted = second_rooted c.requires c.front-before.ensures;
      within = second_within c.requires c.front-before.ensures;
      free = second_free c.requires c.front-before.ensures;
    }

pub join_roots-tail-requires : goal.join_roots-tail-requires
join_roots-tail-requires g c =
    record {
      rooted = tail_rooted c.requires c.front-before.ensures c.back-behind.ensures;
      short = tail_short c.requires c.front-before.ensures c.back-behind.ensures;
      free = tail_free c.requires c.front-before.ensures c.back-behind.ensures;
    }

pub join_roots-requires : goal.join_roots-requires
join_roots-requires g c =
    record {
      rooted = last_rooted c.requires c.front-before.ensures c.back-behind.ensures c.join_roots-tail.ensures.makes;
      short = last_short c.requires c.front-before.ensures c.back-behind.ensures c.join_roots-tail.ensures.makes;
      free = last_free c.requires c.front-before.ensures c.back-behind.ensures c.join_roots-tail.ensures.makes;
    }

pub returns : goal.returns
returns g c = replaced c.requires c.front-before.ensures c.back-behind.ensures c.join_roots-tail.ensures.makes c.join_roots.ensures.makes
