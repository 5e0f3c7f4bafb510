-- Worked figures.
use Rattle.std.specs.Prelude.{◌≡◌, ℕ, List, [], ◌∷◌}
use Rattle.monoid.specs.Monoid.{fold_of}
use Rattle.monoid.specs.KarpRabinValues.{karp_rabin_model}
use Rattle.monoid.specs.LineColumnValues.{line_column_model, numbers}
use Rattle.zemor.specs.Matrix.{matrix}
use Rattle.zemor.specs.Values.{sl2, row}
use Rattle.zemor.specs.declared.matrix.Entries.{Entries}

abbrev pub entries : List ℕ → Entries
entries text = row (fold_of sl2 text)

-- "a" is byte 97, "b" byte 98
abbrev pub Figures : Type 0
Figures =
    (entries (85 ∷ []) ≡ matrix 34 21 21 13)
    × (entries (97 ∷ []) ≡ matrix 16 13 11 9)
    × (entries (97 ∷ 98 ∷ []) ≡ matrix 325 576 224 397)
    × (entries (98 ∷ 97 ∷ []) ≡ matrix 461 376 320 261)
    × (entries (97 ∷ 97 ∷ []) ≡ matrix 399 325 275 224)
    × (entries (85 ∷ 85 ∷ 85 ∷ 85 ∷ 85 ∷ []) ≡ matrix 165580141 102334155 102334155 63245986)
    × ((fold_of karp_rabin_model (97 ∷ 98 ∷ [])).h.n ≡ 1647185)
    × (numbers (fold_of line_column_model (97 ∷ 10 ∷ 98 ∷ [])) ≡ (1, 1))
