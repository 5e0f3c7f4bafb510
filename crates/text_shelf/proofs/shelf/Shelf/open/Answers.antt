use Rattle.std.proofs.Common.{arith}
use Rattle.rope.specs.Arena.{text_of}
use Rattle.rope.specs.Memory.{arena_of}
use Rattle.text_shelf.proofs.Drafting.{open_does, none_open}
use Rattle.text_shelf.proofs.shelf.Shelf.open.Goals as goal

pub returns : goal.returns
returns g c =
    let s = c.args.self.now in
    rw (c.last_draft.ensures, none_open (text_of (arena_of s.store)) s.draft s.opened c.if-is_some.ensures (omega arith)) (open_does s)
