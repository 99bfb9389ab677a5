-- The two widths of an operand, 8 and 16 bits.
use Rattle.std.specs.Prelude.{ℕ, ◌-◌, ◌^◌}
use Rattle.alu.specs.declared.width.Width.{Width}
use Rattle.alu.specs.declared.width.Width.TheVariants.{Byte, Word}

abbrev pub bits : Width → ℕ
bits Byte = 8
bits Word = 16

-- how many values a width has
abbrev pub whole : Width → ℕ
whole w = 2 ^ bits w

-- the weight of the lowest of its top four bits, which takes the half carry: the one past bit 3 of a byte, and past bit 11 of a word
abbrev pub part : Width → ℕ
part w = 2 ^ (bits w - 4)
