-- What the stack gives back, and what a skip leaves, of a machine m before and e after.
use Rattle.std.specs.Prelude.{◌≡◌, ℕ, Bool, true, false, Ok}
use Rattle.registers.specs.declared.file.Registers.{Registers}
use Rattle.lines.specs.declared.level.Level.{Level}
use Rattle.panel.specs.Rules.{Rules}
use Rattle.isa.specs.Costs.{cost_of}
use Rattle.isa.specs.declared.instructions.Instruction.{Instruction}
use Rattle.isa.specs.declared.instructions.Instruction.TheVariants as family
use Rattle.isa.specs.declared.instructions.Jump.{Jump}
use Rattle.isa.specs.declared.instructions.Jump.TheVariants.{Jmp, Jb, Jr, JreForward, JreBackward, Jea, Call, Calb, Calf, Calt, Softi, Ret, Rets, Reti}
use Rattle.machine.specs.Words.{past, back}
use Rattle.machine.specs.Registers.{with_pc, with_flags, with_skip, plain}
use Rattle.machine.specs.Model.{Model}
use Rattle.cpu.specs.Codes.{code_here}
use Rattle.cpu.specs.Picking.{picked}
use Rattle.cpu.specs.Step.{Choice, entry, skip, choice, elapsed}

-- CALL, CALB, CALF and CALT push the address behind them
abbrev pub is_call : Jump → Bool
is_call Jmp = false
is_call Jb = false
is_call (Jr n) = false
is_call JreForward = false
is_call JreBackward = false
is_call Jea = false
is_call Call = true
is_call Calb = true
is_call (Calf n) = true
is_call (Calt n) = true
is_call Softi = false
is_call Ret = false
is_call Rets = false
is_call Reti = false

-- registers with PC n bytes further and SK, L1 and L0 clear, and all else as it was
abbrev pub gone_on : ℕ → Registers → Registers
gone_on n s = with_pc (past s.pc n) (with_flags (plain s.flags) s)

module _ {S : Type 0} where
  -- the cell n below the stack pointer takes what is written to it
  abbrev pub Open : ℕ → Model S → Type 0
  Open n m = m.cells.fixed (back m.core.registers.sp n) ≡ false

  -- RET behind a call into open cells goes on behind the call: SK, L1 and L0 are clear, and SP and all other registers are as they were
  abbrev pub CallReturns : Jump → Model S → Model S → Type 0
  CallReturns call m e =
      is_call call ≡ true → Open 1 m → Open 2 m
      → e.core.registers ≡ gone_on (cost_of (family.Jump call)).bytes m.core.registers

  -- POP behind PUSH of the same pair into open cells: PC is two bytes further, SK, L1 and L0 are clear, and the pair, SP and all other registers are as they were
  abbrev pub PopRestores : Model S → Model S → Type 0
  PopRestores m e = Open 1 m → Open 2 m → e.core.registers ≡ gone_on 2 m.core.registers

  -- what a step does at m
  abbrev pub chosen : Model S → Choice
  chosen m = choice (picked m.core m.requests) m.core

  -- RETI behind an entry into open cells restores PC, the flags of the PSW, SP and all other registers
  abbrev pub EntryReturns : Model S → Model S → Type 0
  EntryReturns m e =
      (level : Level) → chosen m ≡ entry level → Open 1 m → Open 2 m → Open 3 m
      → e.core.registers ≡ m.core.registers

-- a code passed over: PC is behind it, SK is clear, the core is not halted and executed no EI, its skipped states pass, and nothing else changes
pub record PassedOver {S : Type 0} (rules : Rules S) (i : Instruction) (m e : Model S) : Type 0 where
  pub registers : e.core.registers ≡ with_pc (past m.core.registers.pc (cost_of i).bytes) (with_skip false m.core.registers)
  pub mkl : e.core.mkl ≡ m.core.mkl
  pub mkh : e.core.mkh ≡ m.core.mkh
  pub interrupts : e.core.interrupts ≡ m.core.interrupts
  pub halted : e.core.halted ≡ false
  pub after_ei : e.core.after_ei ≡ false
  pub cells : e.cells ≡ m.cells
  pub standing : e.standing ≡ (elapsed rules (cost_of i).skipped m).standing
  pub requests : e.requests ≡ (elapsed rules (cost_of i).skipped m).requests

-- a skip only passes over the instruction at PC
abbrev pub SkipPasses : {S : Type 0} → Rules S → Model S → Model S → Type 0
SkipPasses rules m e = (i : Instruction) → chosen m ≡ skip → code_here m ≡ Ok i → PassedOver rules i m e
