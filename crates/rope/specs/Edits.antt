-- What an edit makes of a text.
use Rattle.std.specs.Prelude.{ℕ, List, ◌++◌, take, drop}

-- a splice: the bytes of d up to a, then e, then the bytes of d from b on
abbrev pub spliced : List ℕ → ℕ → ℕ → List ℕ → List ℕ
spliced d a b e = take a d ++ (e ++ drop b d)
