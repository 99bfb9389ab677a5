-- Transfers: what each makes of the registers, of memory or of the special registers.
use Rattle.std.specs.Prelude.{true, false, cond, ℕ, ◌+◌, ◌%◌, eqb}
use Rattle.registers.specs.declared.bank.Bank.{Bank}
use Rattle.registers.specs.declared.bank.ByteRegister.{ByteRegister}
use Rattle.registers.specs.declared.bank.ByteRegister.TheVariants.{V, A, B, C, D, E, H, L}
use Rattle.registers.specs.declared.flags.Flags.{Flags}
use Rattle.registers.specs.declared.file.Registers.{Registers}
use Rattle.registers.specs.declared.bench.Core.{Core}
use Rattle.board.specs.Cells.{Cells, written}
use Rattle.panel.specs.Rules.{Rules, code_of}
use Rattle.isa.specs.declared.operands.R1.{R1}
use Rattle.isa.specs.declared.operands.Rpa2.{Rpa2}
use Rattle.isa.specs.declared.operands.Rpa3.{Rpa3}
use Rattle.machine.specs.declared.words.WordRegister.{WordRegister}
use Rattle.machine.specs.declared.words.WordRegister.TheVariants as word
use Rattle.machine.specs.Words.{past, back, word_at, word_stored, pushed}
use Rattle.machine.specs.Registers.{with_ea, with_sp, with_pc, with_a, with_byte, byte_in, with_carry, with_overlay}
use Rattle.machine.specs.Operands.{r1_in, with_r1, word_in, with_word, last_byte, byte_before, data_word, working, rpa2_place, rpa2_used, rpa3_place, rpa3_used}
use Rattle.machine.specs.Model.{Reach, reach, Ports, ports, core_with}

-- MOV r1,A and MOV A,r1
abbrev pub to_r1 : R1 → Registers → Registers
to_r1 r s = with_r1 r s.main.a s

abbrev pub from_r1 : R1 → Registers → Registers
from_r1 r s = with_a (r1_in r s) s

-- MOV r,word and MOV word,r
abbrev pub direct_loaded : ByteRegister → Cells → Registers → Registers
direct_loaded r cells s = with_byte r (cells.at (data_word cells s)) s

abbrev pub direct_stored : ByteRegister → Registers → Cells → Cells
direct_stored r s cells = written cells (data_word cells s) (byte_in r s)

-- MVI r,byte: A is loaded unless L1 was set before, L unless L0 was; the flag is set then
abbrev pub immediate : ByteRegister → Flags → Cells → Registers → Registers
immediate V before cells s = with_byte V (last_byte cells s) s
immediate A before cells s = with_overlay true false (cond before.l1 s (with_byte A (last_byte cells s) s))
immediate B before cells s = with_byte B (last_byte cells s) s
immediate C before cells s = with_byte C (last_byte cells s) s
immediate D before cells s = with_byte D (last_byte cells s) s
immediate E before cells s = with_byte E (last_byte cells s) s
immediate H before cells s = with_byte H (last_byte cells s) s
immediate L before cells s = with_overlay false true (cond before.l0 s (with_byte L (last_byte cells s) s))

-- LXI rp2,word: HL is loaded unless L0 was set before; the flag is set then
abbrev pub word_immediate : WordRegister → Flags → Cells → Registers → Registers
word_immediate word.Va before cells s = with_word word.Va (data_word cells s) s
word_immediate word.Bc before cells s = with_word word.Bc (data_word cells s) s
word_immediate word.De before cells s = with_word word.De (data_word cells s) s
word_immediate word.Hl before cells s = with_overlay false true (cond before.l0 s (with_word word.Hl (data_word cells s) s))
word_immediate word.Ea before cells s = with_word word.Ea (data_word cells s) s
word_immediate word.Sp before cells s = with_word word.Sp (data_word cells s) s

-- MVIW wa,byte and MVIX rpa1,byte
abbrev pub working_immediate : Registers → Cells → Cells
working_immediate s cells = written cells (working (byte_before cells s) s) (last_byte cells s)

abbrev pub indirect_immediate : WordRegister → Registers → Cells → Cells
indirect_immediate p s cells = written cells (word_in p s) (last_byte cells s)

-- LDAW wa and STAW wa
abbrev pub working_loaded : Cells → Registers → Registers
working_loaded cells s = with_a (cells.at (working (last_byte cells s) s)) s

abbrev pub working_stored : Registers → Cells → Cells
working_stored s cells = written cells (working (last_byte cells s) s) s.main.a

-- LDAX rpa2 and STAX rpa2
abbrev pub indirect_loaded : Rpa2 → Cells → Registers → Registers
indirect_loaded place cells s = rpa2_used place (with_a (cells.at (rpa2_place place cells s)) s)

abbrev pub indirect_stored : Rpa2 → Reach → Reach
indirect_stored place q = reach (rpa2_used place q.registers) (written q.cells (rpa2_place place q.cells q.registers) q.registers.main.a)

-- a bank with the registers from B on, and with H and L, of another
abbrev pub from_b_on : Bank → Bank → Bank
from_b_on other own = record other { v = own.v; a = own.a }

abbrev pub h_and_l : Bank → Bank → Bank
h_and_l other own = record own { h = other.h; l = other.l }

abbrev pub v_and_a : Bank → Bank → Bank
v_and_a other own = record own { v = other.v; a = other.a }

-- EXX, EXA and EXH: registers exchanged with their alternates
abbrev pub exchanged : (Bank → Bank → Bank) → ℕ → ℕ → Registers → Registers
exchanged part ea alternate s = record s {
  main = part s.alternate s.main;
  alternate = part s.main s.alternate;
  ea = ea;
  ea_alternate = alternate;
}

abbrev pub b_to_l_exchanged : Registers → Registers
b_to_l_exchanged s = exchanged from_b_on s.ea s.ea_alternate s

abbrev pub v_a_ea_exchanged : Registers → Registers
v_a_ea_exchanged s = exchanged v_and_a s.ea_alternate s.ea s

abbrev pub h_l_exchanged : Registers → Registers
h_l_exchanged s = exchanged h_and_l s.ea s.ea_alternate s

-- BLOCK: one byte from HL to DE, both then one more, and C one less; until C borrows, PC stays on the instruction of one byte
abbrev pub block_moved : Registers → Registers
block_moved s =
    with_pc (cond (eqb s.main.c 0) s.pc (back s.pc 1))
    (with_carry (eqb s.main.c 0)
    (with_byte C ((s.main.c + 255) % 256)
    (with_word word.Hl (past (word_in word.Hl s) 1)
    (with_word word.De (past (word_in word.De s) 1) s))))

abbrev pub block_step : Reach → Reach
block_step q =
    reach (block_moved q.registers)
    (written q.cells (word_in word.De q.registers) (q.cells.at (word_in word.Hl q.registers)))

-- DMOV rp3,EA and DMOV EA,rp3
abbrev pub from_ea : WordRegister → Registers → Registers
from_ea p s = with_word p s.ea s

abbrev pub to_ea : WordRegister → Registers → Registers
to_ea p s = with_ea (word_in p s) s

-- LSPD, LBCD, LDED, LHLD and SSPD, SBCD, SDED, SHLD
abbrev pub word_loaded : WordRegister → Cells → Registers → Registers
word_loaded p cells s = with_word p (word_at cells (data_word cells s)) s

abbrev pub word_saved : WordRegister → Registers → Cells → Cells
word_saved p s cells = word_stored (data_word cells s) (word_in p s) cells

-- LDEAX rpa3 and STEAX rpa3
abbrev pub ea_loaded : Rpa3 → Cells → Registers → Registers
ea_loaded place cells s = rpa3_used place (with_ea (word_at cells (rpa3_place place cells s)) s)

abbrev pub ea_stored : Rpa3 → Reach → Reach
ea_stored place q = reach (rpa3_used place q.registers) (word_stored (rpa3_place place q.cells q.registers) q.registers.ea q.cells)

-- PUSH rp1 and POP rp1
abbrev pub word_pushed : WordRegister → Reach → Reach
word_pushed p q = reach (with_sp (back q.registers.sp 2) q.registers) (pushed q.registers.sp (word_in p q.registers) q.cells)

abbrev pub word_popped : WordRegister → Cells → Registers → Registers
word_popped p cells s = with_word p (word_at cells s.sp) (with_sp (past s.sp 2) s)

-- TABLE: BC from the A-th byte of the table that stands one byte behind the instruction
abbrev pub from_table : Cells → Registers → Registers
from_table cells s = with_word word.Bc (word_at cells (past s.pc (1 + s.main.a))) s

-- the masks belong to the core: MKH has code 6, MKL code 7; the panel has the other special registers
module _ {S : Type 0} (rules : Rules S) where
  abbrev pub special : ℕ → Ports S → ℕ
  special code p = cond (eqb code 6) p.core.mkh (cond (eqb code 7) p.core.mkl (rules.shown p.standing (code_of code)))

  abbrev pub masks_are : ℕ → ℕ → Core → Core
  masks_are h l core = record core { mkl = l; mkh = h }

  abbrev pub special_put : ℕ → ℕ → Ports S → Ports S
  special_put code x p =
      cond (eqb code 6) (ports (masks_are x p.core.mkl p.core) p.standing)
      (cond (eqb code 7) (ports (masks_are p.core.mkh x p.core) p.standing)
      (ports p.core (rules.putting p.standing (code_of code) x)))

  -- MOV A,sr1 and MOV sr,A
  abbrev pub special_read : ℕ → Ports S → Ports S
  special_read code p = ports (core_with (with_a (special code p) p.core.registers) p.core) p.standing

  abbrev pub special_written : ℕ → Ports S → Ports S
  special_written code p = special_put code p.core.registers.main.a p

  -- MVI sr2,byte
  abbrev pub special_immediate : ℕ → Cells → Ports S → Ports S
  special_immediate code cells p = special_put code (last_byte cells p.core.registers) p
