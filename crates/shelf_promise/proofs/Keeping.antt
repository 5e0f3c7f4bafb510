-- What is kept at the top of a document is the fold of its bytes.
use Rattle.std.proofs.Common.{◌≡◌, ℕ, zero, suc, ◌<◌, true, [], length, get_or, sym, Some, None, refl, ap, ◌∙◌, arith}
use Rattle.std.proofs.lemmas.List.{get_or-map, length-map}
use Rattle.std.proofs.lemmas.Bool.{ltb-true}
use Rattle.monoid.specs.Monoid.{Model, Lawful, fold_of, from_row}
use Rattle.monoid.proofs.Rows.{from_row_back}
use Rattle.rope.specs.Tree.{leaf, text}
use Rattle.rope.specs.Arena.{Arena, Root, Summed, forest, tree_at, text_of, kept_of, row_in, rooted}
use Rattle.rope.proofs.Forests.{length_grown}
use Rattle.shelf_view.specs.Documents.{all_fine}
use Rattle.shelf_view.specs.State.{Shelved, state_of, text_at, kept_values}
use Rattle.shelf_view.proofs.Placing.{fine_at, root_of}

kept_fold : {V R : Type 0} (m : Model V R) → Lawful m → (a : Arena R) → Summed m a → (p : Root) → rooted (length a.records) p ≡ true → kept_of m a p ≡ fold_of m (text_of a p)
kept_fold m l a w None h = refl
kept_fold m l a w (Some i) h =
    let below : i < length (forest a) = omega (arith, ltb-true i (length a.records) h, length_grown a.build a.added [] a.records) in
    ap (λ rows. from_row m (get_or rows i (m.row m.empty))) w
    ∙ ap (from_row m) (get_or-map (row_in m) (forest a) i (leaf []) (m.row m.empty) below)
    ∙ from_row_back m l (fold_of m (text (tree_at a i)))

pub documents_fold : {V R : Type 0} (m : Model V R) → Lawful m → (s : Shelved R) → Summed m s.arena → all_fine s.arena s.roots ≡ true
    → (d : ℕ) → d < length (state_of s).texts → get_or (kept_values m s) d m.empty ≡ fold_of m (text_at (state_of s) d)
documents_fold m l s w all zero h = refl
documents_fold m l s w all (suc i) h =
    let below : i < length s.roots = omega (arith, length-map s.roots (text_of s.arena)) in
    get_or-map (kept_of m s.arena) s.roots i None m.empty below
    ∙ kept_fold m l s.arena w (get_or s.roots i None) (root_of s.arena (get_or s.roots i None) (fine_at s.arena s.roots i None all below))
    ∙ ap (fold_of m) (sym (get_or-map (text_of s.arena) s.roots i None [] below))
