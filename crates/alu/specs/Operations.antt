-- What an operation forms of two operands, once over the width, and the flags that it sets.
use Rattle.std.specs.Prelude.{ℕ, ◌%◌, Bool, true, false, not, ◌==◌, bit_and, bit_or, bit_xor}
use Rattle.registers.specs.declared.flags.Flags.{Flags}
use Rattle.alu.specs.declared.operation.Operation.{Operation}
use Rattle.alu.specs.declared.operation.Operation.TheVariants.{And, Xor, Or, AddSkipNoCarry, Greater, SubSkipNoBorrow, Less, Add, On, AddWithCarry, Off, Sub, NotEqual, SubWithCarry, Equal}
use Rattle.alu.specs.declared.width.Width.{Width}
use Rattle.alu.specs.Widths.{whole}
use Rattle.alu.specs.Sums.{Formed, sum, difference, marked}

-- a bitwise value; HC and CY stay
abbrev pub bitwise : ℕ → Flags → Formed
bitwise x f = record { value = x; half = f.half; carry = f.carry }

-- what each operation forms
abbrev pub formed : Operation → Width → ℕ → ℕ → Flags → Formed
formed And w a b f = bitwise (bit_and a b) f
formed Xor w a b f = bitwise (bit_xor a b) f
formed Or w a b f = bitwise (bit_or a b) f
formed AddSkipNoCarry w a b f = sum w a b false
formed Greater w a b f = difference w a b true
formed SubSkipNoBorrow w a b f = difference w a b false
formed Less w a b f = difference w a b false
formed Add w a b f = sum w a b false
formed On w a b f = bitwise (bit_and a b) f
formed AddWithCarry w a b f = sum w a b f.carry
formed Off w a b f = bitwise (bit_and a b) f
formed Sub w a b f = difference w a b false
formed NotEqual w a b f = difference w a b false
formed SubWithCarry w a b f = difference w a b f.carry
formed Equal w a b f = difference w a b false

-- whether each operation skips the next instruction, by Z and CY after it
abbrev pub skipping : Operation → Bool → Bool → Bool
skipping And z c = false
skipping Xor z c = false
skipping Or z c = false
skipping AddSkipNoCarry z c = not c
skipping Greater z c = not c
skipping SubSkipNoBorrow z c = not c
skipping Less z c = c
skipping Add z c = false
skipping On z c = not z
skipping AddWithCarry z c = false
skipping Off z c = z
skipping Sub z c = false
skipping NotEqual z c = not z
skipping SubWithCarry z c = false
skipping Equal z c = z

-- an operation on as many low bits of its operands as the width has
abbrev pub operated : Operation → Width → ℕ → ℕ → Flags → Formed
operated op w a b f = formed op w (a % whole w) (b % whole w) f

-- the flags after an operation
abbrev pub flagged : Operation → Formed → Flags → Flags
flagged op x f = marked x (skipping op (x.value == 0) x.carry) f
