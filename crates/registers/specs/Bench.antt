-- A core on the bench, and what setting a register makes of it.
use Rattle.std.specs.Prelude.{ℕ, false, Ok, Err, Result}
use Rattle.registers.specs.declared.bank.Bank.{Bank}
use Rattle.registers.specs.declared.flags.Flags.{Flags}
use Rattle.registers.specs.declared.file.Registers.{Registers}
use Rattle.registers.specs.declared.bench.Core.{Core}
use Rattle.registers.specs.declared.fault.RegisterFault.{RegisterFault}
use Rattle.registers.specs.Numbering.{named, storing_in}

abbrev pub zero_bank : Bank
zero_bank = record { v = 0; a = 0; b = 0; c = 0; d = 0; e = 0; h = 0; l = 0 }

abbrev pub no_flags : Flags
no_flags = record { zero = false; skip = false; half = false; l1 = false; l0 = false; carry = false }

abbrev pub zero_registers : Registers
zero_registers = record { main = zero_bank; alternate = zero_bank; ea = 0; ea_alternate = 0; sp = 0; pc = 0; flags = no_flags }

abbrev pub core_with : Core → Registers → Core
core_with core registers = record core { registers = registers }

-- all registers zero, every line masked, interrupts disabled, not halted
abbrev pub bench_core : Core
bench_core = record { registers = zero_registers; mkl = 255; mkh = 255; interrupts = false; halted = false; after_ei = false }

abbrev pub with_registers : Core → Result Registers RegisterFault → Result Core RegisterFault
with_registers core (Ok registers) = Ok (core_with core registers)
with_registers core (Err fault) = Err fault

-- a register of the core set by its number
abbrev pub setting : ℕ → ℕ → Core → Result Core RegisterFault
setting number value core = with_registers core (storing_in (named number) value core.registers)
