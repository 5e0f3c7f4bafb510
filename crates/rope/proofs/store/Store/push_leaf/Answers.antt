use Rattle.std.proofs.Common.{◌≡◌, ℕ, List, sym, ap, ◌∙◌}
use Rattle.monoid.specs.Monoid.{fold_of, all_bytes}
use Rattle.rope.specs.Arena.{Arena, part}
use Rattle.rope.specs.Memory.{arena_of, seen}
use Rattle.rope.proofs.Pushes.{leaf_fine}
use Rattle.rope.proofs.store.Store.push_leaf.Goals as goal

pub push-requires : goal.push-requires
push-requires g c =
    let m = g.M.Monoid.model in
    let s = c.args.self.now in
    let in_arena : Arena g.row.M-Row.Denot → List ℕ = λ a. part a c.args.piece.origin c.args.piece.start c.args.piece.len in
    let read : c.bytes.result.now ≡ in_arena (arena_of s) = ◌∙◌ {b = in_arena (seen c.view.result)} c.bytes.ensures (ap in_arena c.view.ensures) in
    leaf_fine m s c.args.piece.origin c.args.piece.start c.args.piece.len c.requires c.to_row.result
    (c.to_row.ensures ∙ ap m.row (c.fold-value.ensures.value ∙ ap (fold_of m) read)) (ap all_bytes (sym read) ∙ c.fold-value.ensures.bytes)
