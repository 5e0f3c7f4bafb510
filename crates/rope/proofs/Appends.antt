-- The memory with more text behind the added text.
use Rattle.std.proofs.Common.{◌≡◌, ℕ, List, [], ◌++◌, map, length, sym, ap, ◌∙◌, arith, length-append}
use Rattle.std.proofs.lemmas.List.{length-take-le}
use Rattle.monoid.specs.Monoid.{Model}
use Rattle.rope.specs.Tree.{size, height, all_lawful}
use Rattle.rope.specs.Arena.{Arena, Sound, Summed, arena, forest, row_in}
use Rattle.rope.specs.Memory.{arena_of}
use Rattle.rope.specs.Steps.{Addable}
use Rattle.rope.specs.declared.store.Store.{Store}
use Rattle.rope.proofs.Forests.{grown_more}

module _ {V R : Type 0} {kind : _} (m : Model V R) (s : Store V R kind) (summed : Summed m (arena_of s)) (bs added : List ℕ) (room : Addable s (length bs))
    (more : added ≡ (arena_of s).added ++ bs) where
  abbrev after : Arena R
  after = arena s.build.now added (arena_of s).records

  same : forest after ≡ forest (arena_of s)
  same =
      ap (λ x. forest (arena s.build.now x (arena_of s).records)) more
      ∙ grown_more s.build.now (arena_of s).added bs [] (arena_of s).records s.sound.lengths

  pub appended_sound : Sound after
  appended_sound =
      record {
        build_short = s.sound.build_short;
        added_short = omega (arith, ap length more, length-append (arena_of s).added bs, length-take-le s.added.used s.added.memory.now s.added.within, room.short);
        few = s.sound.few;
        lawful_trees = ap all_lawful same ∙ s.sound.lawful_trees;
        lengths = s.sound.lengths ∙ ap (map size) (sym same);
        heights = s.sound.heights ∙ ap (map height) (sym same);
      }

  pub appended_summed : Summed m after
  appended_summed = summed ∙ ap (map (row_in m)) (sym same)
