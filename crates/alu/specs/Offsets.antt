-- The signed offsets of relative jumps.
use Rattle.std.specs.Prelude.{ℕ, ◌-◌, ◌%◌, ◌^◌, cond, ℤ, pos, ◌-ℤ◌, nat_lt}

-- the low n bits of a number, of which the top one is the sign
abbrev pub signed : ℕ → ℕ → ℤ
signed n x = cond (nat_lt (x % 2 ^ n) (2 ^ (n - 1))) (pos (x % 2 ^ n)) (pos (x % 2 ^ n) -ℤ pos (2 ^ n))
