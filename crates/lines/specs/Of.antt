-- The lines that a value of `Lines` has.
use Rattle.std.specs.Prelude.{ℕ, Bool}
use Rattle.lines.specs.declared.set.Lines.{Lines}
use Rattle.lines.specs.Sets.{bit}

-- each line has the bit of its number
unfoldable pub lines_of : Lines → ℕ → Bool
lines_of lines = bit lines.bits
