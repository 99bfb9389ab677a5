-- A byte counted up or down by one, and negated.
use Rattle.std.specs.Prelude.{ℕ, ◌-◌, ◌%◌, false}
use Rattle.registers.specs.declared.flags.Flags.{Flags}
use Rattle.alu.specs.declared.counting.Count.{Count}
use Rattle.alu.specs.declared.counting.Count.TheVariants.{Up, Down}
use Rattle.alu.specs.declared.width.Width.TheVariants.{Byte}
use Rattle.alu.specs.Sums.{Formed, sum, difference, marked}

-- one more, with its carries
abbrev pub counted_up : ℕ → Formed
counted_up x = sum Byte x 1 false

-- one less, with its borrows
abbrev pub counted_down : ℕ → Formed
counted_down x = difference Byte x 1 false

abbrev pub counted_by : Count → ℕ → Formed
counted_by Up x = counted_up x
counted_by Down x = counted_down x

-- the flags after it: the carry or borrow skips
abbrev pub counted : Formed → Flags → Flags
counted x f = marked x x.carry f

-- the two's complement of a byte
abbrev pub negated : ℕ → ℕ
negated x = (256 - x) % 256
