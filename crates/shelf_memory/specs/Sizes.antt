-- How much memory a program's shelf has.
use Rattle.std.specs.Prelude.{◌≡◌, length}
use Rattle.shelf_memory.specs.declared.memory.Sizes.{Sizes}
use Rattle.shelf_memory.specs.declared.memory.Memory.{Memory}

pub record Holds (sizes : Sizes) (m : Memory) : Type 0 where
  pub records : length m.records.items ≡ sizes.records
  pub added : length m.added.items ≡ sizes.added
  pub places : length m.places.items ≡ sizes.places
