-- Fibonacci's numbers.
use Rattle.std.specs.Prelude.{ℕ, zero, suc, ◌+◌}

-- F(1) = F(2) = 1
abbrev pub fib : ℕ → ℕ
fib zero = 0
fib (suc zero) = 1
fib (suc (suc n)) = fib (suc n) + fib n
