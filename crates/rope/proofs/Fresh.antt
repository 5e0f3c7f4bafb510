-- A store with nothing in it.
use Rattle.std.proofs.Common.{◌≡◌, ℕ, ◌≤◌, List, [], length, refl, arith}
use Rattle.refusal.specs.declared.limits.TheConstants.{MOST_BYTES}
use Rattle.monoid.specs.Monoid.{Model}
use Rattle.rope.specs.Arena.{Sound, Summed, arena}
use Rattle.rope.specs.declared.record.Record.{Record}

module _ {R : Type 0} (build added : List ℕ) (records : List (Record R)) (no_text : added ≡ []) (no_record : records ≡ []) where
  pub fresh_sound : length build ≤ MOST_BYTES → Sound (arena build added records)
  fresh_sound short = rw (no_text, no_record) (record { build_short = short; added_short = omega arith; few = omega arith; lawful_trees = refl; lengths = refl; heights = refl })

  pub fresh_summed : {V : Type 0} (m : Model V R) → Summed m (arena build added records)
  fresh_summed m = rw (no_text, no_record) refl
