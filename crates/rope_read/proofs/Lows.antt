-- A text that is not too long has a low tree.
use Rattle.std.proofs.Common.{◌≡◌, ◌≤◌, true, length, Some, None, arith}
use Rattle.std.proofs.lemmas.Bool.{ltb-true}
use Rattle.refusal.specs.declared.limits.TheConstants.{MOST_TEXT}
use Rattle.rope.specs.Arena.{Arena, Root, Sound, rooted, text_of, height_of, tree_at}
use Rattle.rope.proofs.Heights.{height_28}
use Rattle.rope.proofs.Readings.{lawful_at}

pub height_low : {R : Type 0} (a : Arena R) (p : Root) → Sound a → rooted (length a.records) p ≡ true → length (text_of a p) ≤ MOST_TEXT → height_of a p ≤ 28
height_low a None w r h = omega arith
height_low a (Some i) w r h = height_28 (tree_at a i) (lawful_at a i w (ltb-true i (length a.records) r)) h
