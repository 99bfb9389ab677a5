-- Registers whose values are of their widths, as the types of the code have them.
use Rattle.std.specs.Prelude.{◌<◌}
use Rattle.registers.specs.declared.bank.Bank.{Bank}
use Rattle.registers.specs.declared.file.Registers.{Registers}

-- every register of a bank holds a byte
pub record Bytes (bank : Bank) : Type 0 where
  pub v : bank.v < 256
  pub a : bank.a < 256
  pub b : bank.b < 256
  pub c : bank.c < 256
  pub d : bank.d < 256
  pub e : bank.e < 256
  pub h : bank.h < 256
  pub l : bank.l < 256

-- EA, SP and PC hold words, and the main bank bytes
pub record Fitting (s : Registers) : Type 0 where
  pub main : Bytes s.main
  pub ea : s.ea < 65536
  pub sp : s.sp < 65536
  pub pc : s.pc < 65536
