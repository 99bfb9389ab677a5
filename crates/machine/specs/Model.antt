-- What a machine means, and how a rule about a part of it acts on the whole.
use Rattle.std.specs.Prelude.{false, ℕ}
use Rattle.registers.specs.declared.file.Registers.{Registers}
use Rattle.registers.specs.declared.bench.Core.{Core}
use Rattle.board.specs.Cells.{Cells}
use Rattle.requests.specs.Request.{Request, quiet}
use Rattle.machine.specs.Registers.{with_pc, with_flags, plain}
use Rattle.machine.specs.Words.{past}

-- a core, the cells of its board, its panel's standing, and what is known of each interrupt line
pub record Model (S : Type 0) : Type 0 where
  pub core : Core
  pub cells : Cells
  pub standing : S
  pub requests : ℕ → Request

-- no line waits, and nothing is counted
abbrev pub started_with : {S : Type 0} → Core → Cells → S → Model S
started_with core cells standing = record { core = core; cells = cells; standing = standing; requests = λ k. quiet }

-- the core with registers
abbrev pub core_with : Registers → Core → Core
core_with s core = record { registers = s; mkl = core.mkl; mkh = core.mkh; interrupts = core.interrupts; halted = core.halted; after_ei = core.after_ei }

-- as an instruction of n bytes begins: PC is past it, SK, L1 and L0 are clear, the core is not halted, and the last step executed no EI
abbrev pub begun : ℕ → Core → Core
begun n core = record {
  registers = with_pc (past core.registers.pc n) (with_flags (plain core.registers.flags) core.registers);
  mkl = core.mkl;
  mkh = core.mkh;
  interrupts = core.interrupts;
  halted = false;
  after_ei = false;
}

-- registers with memory
pub record Reach : Type 0 where
  pub registers : Registers
  pub cells : Cells

abbrev pub reach : Registers → Cells → Reach
reach s cells = record { registers = s; cells = cells }

-- a change of the registers alone, one that reads memory, and a change of memory alone
abbrev pub within_registers : (Registers → Registers) → Reach → Reach
within_registers f q = reach (f q.registers) q.cells

abbrev pub from_memory : (Cells → Registers → Registers) → Reach → Reach
from_memory f q = reach (f q.cells q.registers) q.cells

abbrev pub to_memory : (Registers → Cells → Cells) → Reach → Reach
to_memory f q = reach q.registers (f q.registers q.cells)

-- a core with its panel
pub record Ports (S : Type 0) : Type 0 where
  pub core : Core
  pub standing : S

abbrev pub ports : {S : Type 0} → Core → S → Ports S
ports core standing = record { core = core; standing = standing }

module _ {S : Type 0} where
  abbrev pub on_core : (Core → Core) → Model S → Model S
  on_core f m = record { core = f m.core; cells = m.cells; standing = m.standing; requests = m.requests }

  abbrev pub on_registers : (Registers → Registers) → Model S → Model S
  on_registers f m = record { core = core_with (f m.core.registers) m.core; cells = m.cells; standing = m.standing; requests = m.requests }

  abbrev pub with_reach : Reach → Model S → Model S
  with_reach q m = record { core = core_with q.registers m.core; cells = q.cells; standing = m.standing; requests = m.requests }

  abbrev pub on_reach : (Reach → Reach) → Model S → Model S
  on_reach f m = with_reach (f (reach m.core.registers m.cells)) m

  abbrev pub with_ports : Ports S → Model S → Model S
  with_ports p m = record { core = p.core; cells = m.cells; standing = p.standing; requests = m.requests }

  abbrev pub on_ports : (Ports S → Ports S) → Model S → Model S
  on_ports f m = with_ports (f (ports m.core m.standing)) m

  -- the same, where memory is read too
  abbrev pub on_ports_reading : (Cells → Ports S → Ports S) → Model S → Model S
  on_ports_reading f m = on_ports (f m.cells) m
