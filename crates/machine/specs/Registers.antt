-- Registers and flags with one of them replaced.
use Rattle.std.specs.Prelude.{Bool, false, ℕ}
use Rattle.registers.specs.declared.bank.Bank.{Bank}
use Rattle.registers.specs.declared.bank.ByteRegister.{ByteRegister}
use Rattle.registers.specs.declared.bank.ByteRegister.TheVariants.{A}
use Rattle.registers.specs.declared.flags.Flags.{Flags}
use Rattle.registers.specs.declared.file.Registers.{Registers}
use Rattle.registers.specs.Numbering.{held, holding}

abbrev pub with_main : Bank → Registers → Registers
with_main bank s = record s { main = bank }

abbrev pub with_ea : ℕ → Registers → Registers
with_ea x s = record s { ea = x }

abbrev pub with_sp : ℕ → Registers → Registers
with_sp x s = record s { sp = x }

abbrev pub with_pc : ℕ → Registers → Registers
with_pc x s = record s { pc = x }

abbrev pub with_flags : Flags → Registers → Registers
with_flags f s = record s { flags = f }

-- a byte register, and the registers with it replaced
abbrev pub byte_in : ByteRegister → Registers → ℕ
byte_in r s = held r s.main

abbrev pub with_byte : ByteRegister → ℕ → Registers → Registers
with_byte r x s = with_main (holding r x s.main) s

abbrev pub with_a : ℕ → Registers → Registers
with_a x s = with_byte A x s

-- the flags with SK, with CY, with L1 and L0
abbrev pub skip_is : Bool → Flags → Flags
skip_is x f = record f { skip = x }

abbrev pub carry_is : Bool → Flags → Flags
carry_is x f = record f { carry = x }

abbrev pub overlay_is : Bool → Bool → Flags → Flags
overlay_is one zero f = record f { l1 = one; l0 = zero }

-- SK, L1 and L0 clear
abbrev pub plain : Flags → Flags
plain f = record f { skip = false; l1 = false; l0 = false }

-- the registers with SK, and with CY
abbrev pub with_skip : Bool → Registers → Registers
with_skip x s = with_flags (skip_is x s.flags) s

abbrev pub with_carry : Bool → Registers → Registers
with_carry x s = with_flags (carry_is x s.flags) s

abbrev pub with_overlay : Bool → Bool → Registers → Registers
with_overlay one zero s = with_flags (overlay_is one zero s.flags) s
