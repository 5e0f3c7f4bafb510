use Rattle.rope_keep.proofs.Keepings.{both_rooted, both_short, both_free, longer_grows, longer_text, longer_high}
use Rattle.rope_keep.proofs.lengthen.Goals as goal

pub join_roots-requires : goal.join_roots-requires
join_roots-requires g c =
    record {
      rooted = both_rooted c.requires.rooted c.requires.short c.requires.free c.keep-more.ensures.grows c.keep-more.ensures.stands;
      short = both_short c.requires.rooted c.requires.short c.requires.free c.keep-more.ensures.grows c.keep-more.ensures.stands;
      free = both_free c.requires.rooted c.requires.short c.requires.free c.keep-more.ensures.grows c.keep-more.ensures.stands;
    }

pub returns : goal.returns
returns g c =
    let j = c.join_roots.ensures in
    record {
      grows = longer_grows c.requires.rooted c.requires.short c.requires.free c.keep-more.ensures.grows c.keep-more.ensures.stands j.makes;
      root = j.makes.root;
      text = longer_text c.requires.rooted c.requires.short c.requires.free c.keep-more.ensures.grows c.keep-more.ensures.stands j.makes;
      high = longer_high c.requires.rooted c.requires.short c.requires.free c.keep-more.ensures.grows c.keep-more.ensures.stands j.makes j.least;
    }
