-- Jumps, calls and returns, tests, and the modes of the core. PC is the address behind the instruction already.
use Rattle.std.specs.Prelude.{Bool, true, false, not, ℕ, ◌+◌, ◌*◌, ◌%◌}
use Rattle.registers.specs.declared.flags.Flags.{Flags}
use Rattle.registers.specs.declared.file.Registers.{Registers}
use Rattle.registers.specs.declared.bench.Core.{Core}
use Rattle.registers.specs.Psw.{psw, flags_of, bit}
use Rattle.lines.specs.declared.line.Line.{Line}
use Rattle.lines.specs.Numbers.{number_of}
use Rattle.board.specs.Cells.{Cells, written}
use Rattle.alu.specs.Offsets.{signed}
use Rattle.isa.specs.declared.operands.Flag.{Flag}
use Rattle.isa.specs.declared.operands.Flag.TheVariants.{Carry, Half, Zero}
use Rattle.requests.specs.Request.{testing}
use Rattle.requests.specs.All.{at_line}
use Rattle.machine.specs.declared.words.WordRegister.{WordRegister}
use Rattle.machine.specs.declared.words.WordRegister.TheVariants.{Bc}
use Rattle.machine.specs.Words.{past, back, jumped, word, high, low, word_at, pushed}
use Rattle.machine.specs.Registers.{with_sp, with_pc, with_flags, with_skip}
use Rattle.machine.specs.Operands.{word_in, last_byte, data_word, working}
use Rattle.machine.specs.Model.{Model, Reach, reach, core_with}

-- JMP, and JB and JEA, which take the address from a word register
abbrev pub jumped_to_word : Cells → Registers → Registers
jumped_to_word cells s = with_pc (data_word cells s) s

abbrev pub jumped_by_register : WordRegister → Registers → Registers
jumped_by_register p s = with_pc (word_in p s) s

-- a jump by a signed offset of so many bits
abbrev pub jumped_by : ℕ → ℕ → Registers → Registers
jumped_by bits n s = with_pc (jumped s.pc (signed bits n)) s

-- JR: six bits; JRE: nine bits, of which the opcode has the highest
abbrev pub jumped_by_six : ℕ → Registers → Registers
jumped_by_six n s = jumped_by 6 n s

abbrev pub jumped_by_nine : ℕ → Cells → Registers → Registers
jumped_by_nine top cells s = jumped_by 9 (word top (last_byte cells s)) s

-- a call: PC is pushed and replaced
abbrev pub called : ℕ → Reach → Reach
called target q =
    reach (with_pc target (with_sp (back q.registers.sp 2) q.registers))
    (pushed q.registers.sp q.registers.pc q.cells)

-- CALL, CALB and CALF
abbrev pub called_to_word : Reach → Reach
called_to_word q = called (data_word q.cells q.registers) q

abbrev pub called_by_bc : Reach → Reach
called_by_bc q = called (word_in Bc q.registers) q

abbrev pub called_fixed : ℕ → Reach → Reach
called_fixed n q = called (past 2048 (word n (last_byte q.cells q.registers))) q

-- CALT: the table from 128 on is read after the push
abbrev pub called_by_table : ℕ → Reach → Reach
called_by_table n q = called (word_at (pushed q.registers.sp q.registers.pc q.cells) (128 + 2 * n)) q

-- PSW and PC pushed below the stack pointer: PSW first, then PC, its high byte first
abbrev pub status_pushed : ℕ → ℕ → ℕ → Cells → Cells
status_pushed sp status pc cells = written (written (written cells (back sp 1) status) (back sp 2) (high pc)) (back sp 3) (low pc)

-- SOFTI: PSW goes to the stack as it was before
abbrev pub soft_interrupted : Flags → Reach → Reach
soft_interrupted before q =
    reach (with_pc 96 (with_sp (back q.registers.sp 3) q.registers))
    (status_pushed q.registers.sp (psw before) q.registers.pc q.cells)

-- RET, RETS, which skips, and RETI, which takes PSW from the stack
abbrev pub returned : Cells → Registers → Registers
returned cells s = with_pc (word_at cells s.sp) (with_sp (past s.sp 2) s)

abbrev pub returned_skipping : Cells → Registers → Registers
returned_skipping cells s = with_skip true (returned cells s)

abbrev pub returned_from_interrupt : Cells → Registers → Registers
returned_from_interrupt cells s =
    with_flags (flags_of (cells.at (past s.sp 2))) (with_pc (word_at cells s.sp) (with_sp (past s.sp 3) s))

-- BIT: skips if the bit of a working cell is 1
abbrev pub bit_tested : ℕ → Cells → Registers → Registers
bit_tested n cells s = with_skip (bit (n % 8) (cells.at (working (last_byte cells s) s))) s

-- SK and SKN: skip if the flag is as wanted
abbrev pub flag_in : Flag → Flags → Bool
flag_in Carry f = f.carry
flag_in Half f = f.half
flag_in Zero f = f.zero

abbrev pub skipped_on : Flag → Registers → Registers
skipped_on f s = with_skip (flag_in f s.flags) s

abbrev pub skipped_off : Flag → Registers → Registers
skipped_off f s = with_skip (not (flag_in f s.flags)) s

-- SKIT and SKNIT: skip if the line waits, or if it does not; its mark is cleared
module _ {S : Type 0} where
  abbrev pub line_tested : (Bool → Bool) → Line → Model S → Model S
  line_tested wanted line m = record m {
    core = core_with (with_skip (wanted (m.requests (number_of line)).waiting) m.core.registers) m.core;
    requests = at_line (number_of line) testing m.requests;
  }

-- EI, DI and HLT
abbrev pub modes_are : Bool → Bool → Bool → Core → Core
modes_are interrupts halted after core = record core { interrupts = interrupts; halted = halted; after_ei = after }

abbrev pub enabled : Core → Core
enabled core = modes_are true core.halted true core

abbrev pub disabled : Core → Core
disabled core = modes_are false core.halted core.after_ei core

abbrev pub halted : Core → Core
halted core = modes_are core.interrupts true core.after_ei core
