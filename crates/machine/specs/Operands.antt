-- What the operands of an instruction name: registers, words, data bytes behind the opcode, and places in memory.
-- PC is the address behind the instruction already.
use Rattle.std.specs.Prelude.{ℕ}
use Rattle.registers.specs.declared.bank.ByteRegister.TheVariants as byte
use Rattle.registers.specs.declared.file.Registers.{Registers}
use Rattle.board.specs.Cells.{Cells}
use Rattle.isa.specs.declared.operands.R1.{R1}
use Rattle.isa.specs.declared.operands.R1.TheVariants as r1
use Rattle.isa.specs.declared.operands.Rp.{Rp}
use Rattle.isa.specs.declared.operands.Rp.TheVariants as rp
use Rattle.isa.specs.declared.operands.Rp1.{Rp1}
use Rattle.isa.specs.declared.operands.Rp1.TheVariants as rp1
use Rattle.isa.specs.declared.operands.Rp2.{Rp2}
use Rattle.isa.specs.declared.operands.Rp2.TheVariants as rp2
use Rattle.isa.specs.declared.operands.Rp3.{Rp3}
use Rattle.isa.specs.declared.operands.Rp3.TheVariants as rp3
use Rattle.isa.specs.declared.operands.Rpa2.{Rpa2}
use Rattle.isa.specs.declared.operands.Rpa2.TheVariants as rpa2
use Rattle.isa.specs.declared.operands.Rpa3.{Rpa3}
use Rattle.isa.specs.declared.operands.Rpa3.TheVariants as rpa3
use Rattle.machine.specs.declared.words.WordRegister.{WordRegister}
use Rattle.machine.specs.declared.words.WordRegister.TheVariants.{Va, Bc, De, Hl, Ea, Sp}
use Rattle.machine.specs.Words.{past, back, word, high, low}
use Rattle.machine.specs.Registers.{with_ea, with_sp, with_byte}

-- r1: its value, and the registers with it replaced
abbrev pub r1_in : R1 → Registers → ℕ
r1_in r1.Eah s = high s.ea
r1_in r1.Eal s = low s.ea
r1_in r1.B s = s.main.b
r1_in r1.C s = s.main.c
r1_in r1.D s = s.main.d
r1_in r1.E s = s.main.e
r1_in r1.H s = s.main.h
r1_in r1.L s = s.main.l

abbrev pub with_r1 : R1 → ℕ → Registers → Registers
with_r1 r1.Eah x s = with_ea (word x (low s.ea)) s
with_r1 r1.Eal x s = with_ea (word (high s.ea) x) s
with_r1 r1.B x s = with_byte byte.B x s
with_r1 r1.C x s = with_byte byte.C x s
with_r1 r1.D x s = with_byte byte.D x s
with_r1 r1.E x s = with_byte byte.E x s
with_r1 r1.H x s = with_byte byte.H x s
with_r1 r1.L x s = with_byte byte.L x s

-- a word register: its value, and the registers with it replaced
abbrev pub word_in : WordRegister → Registers → ℕ
word_in Va s = word s.main.v s.main.a
word_in Bc s = word s.main.b s.main.c
word_in De s = word s.main.d s.main.e
word_in Hl s = word s.main.h s.main.l
word_in Ea s = s.ea
word_in Sp s = s.sp

abbrev pub with_word : WordRegister → ℕ → Registers → Registers
with_word Va x s = with_byte byte.V (high x) (with_byte byte.A (low x) s)
with_word Bc x s = with_byte byte.B (high x) (with_byte byte.C (low x) s)
with_word De x s = with_byte byte.D (high x) (with_byte byte.E (low x) s)
with_word Hl x s = with_byte byte.H (high x) (with_byte byte.L (low x) s)
with_word Ea x s = with_ea x s
with_word Sp x s = with_sp x s

-- rp, rp1, rp2 and rp3 as word registers
abbrev pub rp_word : Rp → WordRegister
rp_word rp.Sp = Sp
rp_word rp.Bc = Bc
rp_word rp.De = De
rp_word rp.Hl = Hl

abbrev pub rp1_word : Rp1 → WordRegister
rp1_word rp1.Va = Va
rp1_word rp1.Bc = Bc
rp1_word rp1.De = De
rp1_word rp1.Hl = Hl
rp1_word rp1.Ea = Ea

abbrev pub rp2_word : Rp2 → WordRegister
rp2_word rp2.Sp = Sp
rp2_word rp2.Bc = Bc
rp2_word rp2.De = De
rp2_word rp2.Hl = Hl
rp2_word rp2.Ea = Ea

abbrev pub rp3_word : Rp3 → WordRegister
rp3_word rp3.Bc = Bc
rp3_word rp3.De = De
rp3_word rp3.Hl = Hl

-- the data bytes: the last byte of the instruction, the one before it, and both as a word
abbrev pub last_byte : Cells → Registers → ℕ
last_byte cells s = cells.at (back s.pc 1)

abbrev pub byte_before : Cells → Registers → ℕ
byte_before cells s = cells.at (back s.pc 2)

abbrev pub data_word : Cells → Registers → ℕ
data_word cells s = word (last_byte cells s) (byte_before cells s)

-- the place of a working cell, in the page that V names
abbrev pub working : ℕ → Registers → ℕ
working wa s = word s.main.v wa

-- rpa2: the place, and the registers after its use
abbrev pub rpa2_place : Rpa2 → Cells → Registers → ℕ
rpa2_place rpa2.Bc cells s = word_in Bc s
rpa2_place rpa2.De cells s = word_in De s
rpa2_place rpa2.Hl cells s = word_in Hl s
rpa2_place rpa2.DeUp cells s = word_in De s
rpa2_place rpa2.HlUp cells s = word_in Hl s
rpa2_place rpa2.DeDown cells s = word_in De s
rpa2_place rpa2.HlDown cells s = word_in Hl s
rpa2_place rpa2.DeByte cells s = past (word_in De s) (last_byte cells s)
rpa2_place rpa2.HlA cells s = past (word_in Hl s) s.main.a
rpa2_place rpa2.HlB cells s = past (word_in Hl s) s.main.b
rpa2_place rpa2.HlEa cells s = past (word_in Hl s) s.ea
rpa2_place rpa2.HlByte cells s = past (word_in Hl s) (last_byte cells s)

abbrev pub rpa2_used : Rpa2 → Registers → Registers
rpa2_used rpa2.Bc s = s
rpa2_used rpa2.De s = s
rpa2_used rpa2.Hl s = s
rpa2_used rpa2.DeUp s = with_word De (past (word_in De s) 1) s
rpa2_used rpa2.HlUp s = with_word Hl (past (word_in Hl s) 1) s
rpa2_used rpa2.DeDown s = with_word De (back (word_in De s) 1) s
rpa2_used rpa2.HlDown s = with_word Hl (back (word_in Hl s) 1) s
rpa2_used rpa2.DeByte s = s
rpa2_used rpa2.HlA s = s
rpa2_used rpa2.HlB s = s
rpa2_used rpa2.HlEa s = s
rpa2_used rpa2.HlByte s = s

-- rpa3: the same of a word
abbrev pub rpa3_place : Rpa3 → Cells → Registers → ℕ
rpa3_place rpa3.De cells s = word_in De s
rpa3_place rpa3.Hl cells s = word_in Hl s
rpa3_place rpa3.DeUpTwo cells s = word_in De s
rpa3_place rpa3.HlUpTwo cells s = word_in Hl s
rpa3_place rpa3.DeByte cells s = past (word_in De s) (last_byte cells s)
rpa3_place rpa3.HlA cells s = past (word_in Hl s) s.main.a
rpa3_place rpa3.HlB cells s = past (word_in Hl s) s.main.b
rpa3_place rpa3.HlEa cells s = past (word_in Hl s) s.ea
rpa3_place rpa3.HlByte cells s = past (word_in Hl s) (last_byte cells s)

abbrev pub rpa3_used : Rpa3 → Registers → Registers
rpa3_used rpa3.De s = s
rpa3_used rpa3.Hl s = s
rpa3_used rpa3.DeUpTwo s = with_word De (past (word_in De s) 2) s
rpa3_used rpa3.HlUpTwo s = with_word Hl (past (word_in Hl s) 2) s
rpa3_used rpa3.DeByte s = s
rpa3_used rpa3.HlA s = s
rpa3_used rpa3.HlB s = s
rpa3_used rpa3.HlEa s = s
rpa3_used rpa3.HlByte s = s
