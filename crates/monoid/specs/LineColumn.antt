-- Lines and columns: how many newlines a text has, and how many bytes stand after the last of them. Each is a pair
-- (lines, columns).
use Rattle.std.specs.Prelude.{ℕ, ◌+◌, ◌-◌, ◌^◌, min, cond, ◌==◌, nat_lt}

-- sums stop at 2 ^ 32 - 1
abbrev pub capped : ℕ → ℕ → ℕ
capped x y = min (x + y) (2 ^ 32 - 1)

abbrev pub empty : ℕ × ℕ
empty = (0, 0)

-- byte 10 is (1, 0), every other byte (0, 1)
abbrev pub of_byte : ℕ → ℕ × ℕ
of_byte k = cond (k == 10) (1, 0) (0, 1)

-- (l, c) joined with (m, e): l + m lines; e columns where m is above 0, and c + e otherwise
abbrev pub joined : ℕ × ℕ → ℕ × ℕ → ℕ × ℕ
joined (l, c) (m, e) = (capped l m, cond (nat_lt 0 m) e (capped c e))
