use Rattle.std.proofs.Common.{ℕ, List}
use Rattle.std.specs.Io.KnownBytes.{Consumes}
use Rattle.fingerprint.specs.Streams.{Sums}
use Rattle.fingerprint.proofs.stream.Stream.read_by.Given as goal

abbrev pub invariant-loop : goal.invariant-loop
invariant-loop g l = (text : List ℕ) × (Sums l.stream text × Consumes (g.R.Read.remaining l.fn.input) (g.R.Read.remaining l.input) text)
