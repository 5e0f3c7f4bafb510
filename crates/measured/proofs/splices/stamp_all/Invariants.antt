use Rattle.std.proofs.Common.{◌≤◌, take, length, codes}
use Rattle.std.specs.List.{between}
use Rattle.measured.specs.Stamps.{stamped, HasText}
use Rattle.measured.proofs.splices.stamp_all.Given as goal

abbrev pub invariant-loop-a : goal.invariant-loop-a
invariant-loop-a l = record {
  within : l.fn.len ≤ length l.fn.shelf.store.build.now;
  index : l.a-index ≤ length l.places;
  stamp : HasText l.shelf l.stamp (codes "gatsomev");
  newest : HasText l.shelf l.newest (stamped (between 0 l.fn.len l.fn.shelf.store.build.now) (take l.a-index l.places));
}
