-- Residues are the numbers below p.
use Rattle.std.specs.Prelude.{ℕ, ◌<◌}
use Rattle.residue.specs.Residue.{prime}
use Rattle.residue.specs.declared.Residue.{Residue}

abbrev pub residue : (n : ℕ) → n < prime → Residue
residue n low = record { n = n; low = low }
