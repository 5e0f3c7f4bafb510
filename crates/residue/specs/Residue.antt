-- Numbers modulo the prime p = 2^31 - 1.
use Rattle.std.specs.Prelude.{ℕ, ◌+◌, ◌-◌, ◌*◌, ◌%◌}

abbrev pub prime : ℕ
prime = 2147483647

-- a row times a column
abbrev pub dot : ℕ → ℕ → ℕ → ℕ → ℕ
dot a b e g = (a * e + b * g) % prime

-- what is added to x to come to 0; 0 for 0
abbrev pub minus : ℕ → ℕ
minus x = (prime - x) % prime
