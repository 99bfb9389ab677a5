-- What the operands of an opcode stand for.
use Rattle.registers.specs.declared.bank.ByteRegister.{ByteRegister}
use Rattle.registers.specs.declared.bank.ByteRegister.TheVariants as byte
use Rattle.isa.specs.declared.operands.R2.{R2}
use Rattle.isa.specs.declared.operands.R2.TheVariants as r2

-- r2 as a byte register
abbrev pub r2_register : R2 → ByteRegister
r2_register r2.A = byte.A
r2_register r2.B = byte.B
r2_register r2.C = byte.C
