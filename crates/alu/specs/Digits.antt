-- The two digits of a byte, of four bits each.
use Rattle.std.specs.Prelude.{ℕ, ◌+◌, ◌*◌, ◌/◌, ◌%◌}

abbrev pub high : ℕ → ℕ
high x = x / 16

abbrev pub low : ℕ → ℕ
low x = x % 16

-- the byte of a high and a low digit
abbrev pub digits : ℕ → ℕ → ℕ
digits h l = h * 16 + l
