use Rattle.rope.proofs.Builds.{built_pairs, built_whole}
use Rattle.rope.proofs.store.Store.+build.Goals as goal

pub push_inner-requires : goal.push_inner-requires
push_inner-requires g t c =
    built_pairs c.args.self.now c.args.piece.origin c.args.piece.start c.args.piece.len c.requires c.if-piece-le-LEAF.false c.build-left.ensures c.build-right.ensures

pub returns : goal.returns
returns g t c =
    built_whole c.args.self.now c.args.piece.origin c.args.piece.start c.args.piece.len c.requires c.if-piece-le-LEAF.false c.build-left.ensures c.build-right.ensures c.push_inner.ensures
