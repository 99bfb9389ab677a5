-- Multiplication and division.
use Rattle.std.specs.Prelude.{ℕ, ◌*◌, ◌/◌, ◌%◌, cond, ◌==◌}

abbrev pub product : ℕ → ℕ → ℕ
product a b = a * b

-- FFFFH by zero
abbrev pub quotient : ℕ → ℕ → ℕ
quotient n d = cond (d == 0) 65535 (n / d)

-- by zero the divisor's register is left as it is
abbrev pub remainder : ℕ → ℕ → ℕ
remainder n d = cond (d == 0) d (n % d)
