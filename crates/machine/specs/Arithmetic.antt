-- Arithmetic: what each instruction makes of the registers, of a cell or of a special register.
use Rattle.std.specs.Prelude.{cond, ℕ}
use Rattle.registers.specs.declared.bank.ByteRegister.{ByteRegister}
use Rattle.registers.specs.declared.bank.ByteRegister.TheVariants.{A}
use Rattle.registers.specs.declared.file.Registers.{Registers}
use Rattle.board.specs.Cells.{Cells, written}
use Rattle.panel.specs.Rules.{Rules}
use Rattle.alu.specs.declared.operation.Operation.{Operation}
use Rattle.alu.specs.declared.shifts.Shift.{Shift}
use Rattle.alu.specs.declared.width.Width.TheVariants.{Byte, Word}
use Rattle.alu.specs.Naming.{storing}
use Rattle.alu.specs.Sums.{Formed, marked}
use Rattle.alu.specs.Operations.{operated, flagged}
use Rattle.alu.specs.Counting.{counted, negated}
use Rattle.alu.specs.Products.{product, quotient, remainder}
use Rattle.alu.specs.Decimal.{adjusted}
use Rattle.alu.specs.Digits.{digits, high, low}
use Rattle.alu.specs.Shifts.{shifted, with_carry as carrying, with_carry_and_skip as carrying_and_skipping}
use Rattle.isa.specs.declared.operands.Rpa2.{Rpa2}
use Rattle.machine.specs.declared.words.WordRegister.{WordRegister}
use Rattle.machine.specs.declared.words.WordRegister.TheVariants as word
use Rattle.machine.specs.Words.{past, back}
use Rattle.machine.specs.Registers.{with_ea, with_a, with_byte, byte_in, with_flags}
use Rattle.machine.specs.Operands.{word_in, with_word, last_byte, byte_before, working, rpa2_place, rpa2_used}
use Rattle.machine.specs.Model.{Reach, reach, Ports, ports, core_with}
use Rattle.machine.specs.Transfer.{special, special_put}

-- an operation on a byte register and a byte x: the register takes the value if the operation stores
abbrev pub operated_on : Operation → ByteRegister → ℕ → Registers → Registers
operated_on o r x s =
    with_flags (flagged o (operated o Byte (byte_in r s) x s.flags) s.flags)
    (cond (storing o) (with_byte r (operated o Byte (byte_in r s) x s.flags).value s) s)

-- on EA and a word x
abbrev pub operated_on_ea : Operation → ℕ → Registers → Registers
operated_on_ea o x s =
    with_flags (flagged o (operated o Word s.ea x s.flags) s.flags)
    (cond (storing o) (with_ea (operated o Word s.ea x s.flags).value s) s)

-- A,r · r,A · rpa · A,byte and r,byte · wa
abbrev pub operated_a : Operation → ByteRegister → Registers → Registers
operated_a o r s = operated_on o A (byte_in r s) s

abbrev pub operated_r : Operation → ByteRegister → Registers → Registers
operated_r o r s = operated_on o r s.main.a s

abbrev pub operated_x : Operation → Rpa2 → Cells → Registers → Registers
operated_x o place cells s = rpa2_used place (operated_on o A (cells.at (rpa2_place place cells s)) s)

abbrev pub operated_byte : Operation → ByteRegister → Cells → Registers → Registers
operated_byte o r cells s = operated_on o r (last_byte cells s) s

abbrev pub operated_w : Operation → Cells → Registers → Registers
operated_w o cells s = operated_on o A (cells.at (working (last_byte cells s) s)) s

-- wa,byte: on a working cell
abbrev pub cell_operated : Operation → ℕ → ℕ → Reach → Reach
cell_operated o place x q =
    reach (with_flags (flagged o (operated o Byte (q.cells.at place) x q.registers.flags) q.registers.flags) q.registers)
    (cond (storing o) (written q.cells place (operated o Byte (q.cells.at place) x q.registers.flags).value) q.cells)

abbrev pub operated_w_byte : Operation → Reach → Reach
operated_w_byte o q = cell_operated o (working (byte_before q.cells q.registers) q.registers) (last_byte q.cells q.registers) q

-- sr2,byte: on a special register
module _ {S : Type 0} (rules : Rules S) where
  abbrev pub special_operated : Operation → ℕ → Formed → Ports S → Ports S
  special_operated o code x p =
      cond (storing o) (special_put rules code x.value (ports (core_with (with_flags (flagged o x p.core.registers.flags) p.core.registers) p.core) p.standing))
      (ports (core_with (with_flags (flagged o x p.core.registers.flags) p.core.registers) p.core) p.standing)

  abbrev pub operated_sr2 : Operation → ℕ → Cells → Ports S → Ports S
  operated_sr2 o code cells p =
      special_operated o code (operated o Byte (special rules code p) (last_byte cells p.core.registers) p.core.registers.flags) p

-- EA,rp3 · EADD and ESUB, which take a byte register
abbrev pub operated_ea : Operation → WordRegister → Registers → Registers
operated_ea o p s = operated_on_ea o (word_in p s) s

abbrev pub operated_ea_byte : Operation → ByteRegister → Registers → Registers
operated_ea_byte o r s = operated_on_ea o (byte_in r s) s

-- MUL and DIV
abbrev pub multiplied : ByteRegister → Registers → Registers
multiplied r s = with_ea (product s.main.a (byte_in r s)) s

abbrev pub divided : ByteRegister → Registers → Registers
divided r s = with_ea (quotient s.ea (byte_in r s)) (with_byte r (remainder s.ea (byte_in r s)) s)

-- INR and DCR, INRW and DCRW: a byte counted by one
abbrev pub register_counted : (ℕ → Formed) → ByteRegister → Registers → Registers
register_counted by r s = with_flags (counted (by (byte_in r s)) s.flags) (with_byte r (by (byte_in r s)).value s)

abbrev pub cell_counted : (ℕ → Formed) → ℕ → Reach → Reach
cell_counted by place q =
    reach (with_flags (counted (by (q.cells.at place)) q.registers.flags) q.registers)
    (written q.cells place (by (q.cells.at place)).value)

abbrev pub working_counted : (ℕ → Formed) → Reach → Reach
working_counted by q = cell_counted by (working (last_byte q.cells q.registers) q.registers) q

-- INX and DCX: a word counted by one
abbrev pub word_incremented : WordRegister → Registers → Registers
word_incremented p s = with_word p (past (word_in p s) 1) s

abbrev pub word_decremented : WordRegister → Registers → Registers
word_decremented p s = with_word p (back (word_in p s) 1) s

-- DAA and NEGA
abbrev pub decimal_adjusted : Registers → Registers
decimal_adjusted s = with_flags (marked (adjusted s.main.a s.flags) s.flags.skip s.flags) (with_a (adjusted s.main.a s.flags).value s)

abbrev pub a_negated : Registers → Registers
a_negated s = with_a (negated s.main.a) s

-- RLL, RLR, SLL and SLR · SLLC and SLRC · the shifts of EA
abbrev pub register_shifted : Shift → ByteRegister → Registers → Registers
register_shifted shift r s =
    with_flags (carrying (shifted shift Byte (byte_in r s) s.flags.carry).out s.flags)
    (with_byte r (shifted shift Byte (byte_in r s) s.flags.carry).moved s)

abbrev pub register_shifted_skipping : Shift → ByteRegister → Registers → Registers
register_shifted_skipping shift r s =
    with_flags (carrying_and_skipping (shifted shift Byte (byte_in r s) s.flags.carry).out s.flags)
    (with_byte r (shifted shift Byte (byte_in r s) s.flags.carry).moved s)

abbrev pub ea_shifted : Shift → Registers → Registers
ea_shifted shift s =
    with_flags (carrying (shifted shift Word s.ea s.flags.carry).out s.flags)
    (with_ea (shifted shift Word s.ea s.flags.carry).moved s)

-- RLD and RRD: digits go round through A's low digit and the cell at HL
abbrev pub digits_left : Reach → Reach
digits_left q =
    reach (with_a (digits (high q.registers.main.a) (high (q.cells.at (word_in word.Hl q.registers)))) q.registers)
    (written q.cells (word_in word.Hl q.registers) (digits (low (q.cells.at (word_in word.Hl q.registers))) (low q.registers.main.a)))

abbrev pub digits_right : Reach → Reach
digits_right q =
    reach (with_a (digits (high q.registers.main.a) (low (q.cells.at (word_in word.Hl q.registers)))) q.registers)
    (written q.cells (word_in word.Hl q.registers) (digits (low q.registers.main.a) (high (q.cells.at (word_in word.Hl q.registers)))))
