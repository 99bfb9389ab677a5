-- Encoding: the opcode of each instruction, as the columns of codes list it.
use Rattle.std.specs.Prelude.{ℕ, ◌+◌, ◌*◌, ◌/◌, ◌%◌, Bool, cond, not, ◌||◌, Some, None, Option, ◌==◌, nat_lt}
use Rattle.alu.specs.Naming.{operation_code}
use Rattle.lines.specs.Numbers.{number_of}
use Rattle.isa.specs.Special.{readable, writable, both_ways}
use Rattle.isa.specs.Codes.{register_code, r1_code, r2_code, rp_code, rp1_code, rp2_code, rp3_code, rpa2_code, rpa3_code, flag_code}
use Rattle.isa.specs.declared.encoding.Opcode.{Opcode}
use Rattle.isa.specs.declared.encoding.Opcode.TheVariants.{One, Two}
use Rattle.isa.specs.declared.instructions.Instruction.{Instruction}
use Rattle.isa.specs.declared.instructions.Instruction.TheVariants as family
use Rattle.isa.specs.declared.instructions.Transfer.{Transfer}
use Rattle.isa.specs.declared.instructions.Transfer.TheVariants.{MovToR1, MovFromR1, MovLoad, MovStore, Mvi, Mviw, Mvix, Staw, Ldaw, Stax, Ldax, Exx, Exa, Exh, Block, DmovFromEa, DmovToEa, StoreRp, LoadRp, Steax, Ldeax, Push, Pop, Lxi, Table}
use Rattle.isa.specs.declared.instructions.Arithmetic.{Arithmetic}
use Rattle.isa.specs.declared.instructions.Arithmetic.TheVariants.{OperateA, OperateR, OperateX, OperateByte, OperateRByte, OperateW, OperateWByte, OperateEa, Eadd, Esub, Mul, Div, Inr, Dcr, Inrw, Dcrw, Inx, Dcx, Daa, Stc, Clc, Nega, Rld, Rrd, Rll, Rlr, Sll, Slr, Sllc, Slrc, Drll, Drlr, Dsll, Dslr}
use Rattle.isa.specs.declared.instructions.Jump.{Jump}
use Rattle.isa.specs.declared.instructions.Jump.TheVariants.{Jmp, Jb, Jr, JreForward, JreBackward, Jea, Call, Calb, Calf, Calt, Softi, Ret, Rets, Reti}
use Rattle.isa.specs.declared.instructions.Special.{Special}
use Rattle.isa.specs.declared.instructions.Special.TheVariants.{MovToSr, MovFromSr1, MviSr2, OperateSr2}
use Rattle.isa.specs.declared.instructions.Control.{Control}
use Rattle.isa.specs.declared.instructions.Control.TheVariants.{Bit, Sk, Skn, Skit, Sknit, Nop, Ei, Di, Hlt}

-- an opcode of one byte, and of a prefix with one behind it
abbrev pub one : ℕ → Option Opcode
one first = Some (One first)

abbrev pub two : ℕ → ℕ → Option Opcode
two prefix second = Some (Two prefix second)

-- ON and OFF do not take r,A
abbrev pub takes_a : ℕ → Bool
takes_a k = not (k == 9 || k == 11)

abbrev pub transfer_opcode : Transfer → Option Opcode
transfer_opcode (MovToR1 r) = one (0x18 + (r1_code r))
transfer_opcode (MovFromR1 r) = one (0x08 + (r1_code r))
transfer_opcode (MovLoad r) = two 0x70 (0x68 + (register_code r))
transfer_opcode (MovStore r) = two 0x70 (0x78 + (register_code r))
transfer_opcode (Mvi r) = one (0x68 + (register_code r))
transfer_opcode Mviw = one 0x71
transfer_opcode (Mvix p) = one (0x48 + (rp3_code p))
transfer_opcode Staw = one 0x63
transfer_opcode Ldaw = one 0x01
transfer_opcode (Stax a) = one ((rpa2_code a) / 8 * 128 + 0x38 + (rpa2_code a) % 8)
transfer_opcode (Ldax a) = one ((rpa2_code a) / 8 * 128 + 0x28 + (rpa2_code a) % 8)
transfer_opcode Exx = one 0x11
transfer_opcode Exa = one 0x10
transfer_opcode Exh = one 0x50
transfer_opcode Block = one 0x31
transfer_opcode (DmovFromEa p) = one (0xb4 + (rp3_code p))
transfer_opcode (DmovToEa p) = one (0xa4 + (rp3_code p))
transfer_opcode (StoreRp p) = two 0x70 (16 * (rp_code p) + 0x0e)
transfer_opcode (LoadRp p) = two 0x70 (16 * (rp_code p) + 0x0f)
transfer_opcode (Steax a) = two 0x48 (0x90 + (rpa3_code a))
transfer_opcode (Ldeax a) = two 0x48 (0x80 + (rpa3_code a))
transfer_opcode (Push p) = one (0xb0 + (rp1_code p))
transfer_opcode (Pop p) = one (0xa0 + (rp1_code p))
transfer_opcode (Lxi p) = one (16 * (rp2_code p) + 0x04)
transfer_opcode Table = two 0x48 0xa8

abbrev pub arithmetic_opcode : Arithmetic → Option Opcode
arithmetic_opcode (OperateA o r) = two 0x60 (0x80 + 8 * (operation_code o) + (register_code r))
arithmetic_opcode (OperateR o r) = cond (takes_a (operation_code o)) (two 0x60 (8 * (operation_code o) + (register_code r))) None
arithmetic_opcode (OperateX o a) = cond (nat_lt (rpa2_code a) 8) (two 0x70 (0x80 + 8 * (operation_code o) + (rpa2_code a))) None
arithmetic_opcode (OperateByte o) = one ((operation_code o) / 2 * 16 + 0x06 + (operation_code o) % 2)
arithmetic_opcode (OperateRByte o r) = two 0x74 (8 * (operation_code o) + (register_code r))
arithmetic_opcode (OperateW o) = two 0x74 (0x80 + 8 * (operation_code o))
arithmetic_opcode (OperateWByte o) = cond ((operation_code o) % 2 == 1) (one ((operation_code o) / 2 * 16 + 0x05)) None
arithmetic_opcode (OperateEa o p) = two 0x74 (0x84 + 8 * (operation_code o) + (rp3_code p))
arithmetic_opcode (Eadd r) = two 0x70 (0x40 + (r2_code r))
arithmetic_opcode (Esub r) = two 0x70 (0x60 + (r2_code r))
arithmetic_opcode (Mul r) = two 0x48 (0x2c + (r2_code r))
arithmetic_opcode (Div r) = two 0x48 (0x3c + (r2_code r))
arithmetic_opcode (Inr r) = one (0x40 + (r2_code r))
arithmetic_opcode (Dcr r) = one (0x50 + (r2_code r))
arithmetic_opcode Inrw = one 0x20
arithmetic_opcode Dcrw = one 0x30
arithmetic_opcode (Inx p) = cond (nat_lt (rp2_code p) 4) (one (16 * (rp2_code p) + 0x02)) (one 0xa8)
arithmetic_opcode (Dcx p) = cond (nat_lt (rp2_code p) 4) (one (16 * (rp2_code p) + 0x03)) (one 0xa9)
arithmetic_opcode Daa = one 0x61
arithmetic_opcode Stc = two 0x48 0x2b
arithmetic_opcode Clc = two 0x48 0x2a
arithmetic_opcode Nega = two 0x48 0x3a
arithmetic_opcode Rld = two 0x48 0x38
arithmetic_opcode Rrd = two 0x48 0x39
arithmetic_opcode (Rll r) = two 0x48 (0x34 + (r2_code r))
arithmetic_opcode (Rlr r) = two 0x48 (0x30 + (r2_code r))
arithmetic_opcode (Sll r) = two 0x48 (0x24 + (r2_code r))
arithmetic_opcode (Slr r) = two 0x48 (0x20 + (r2_code r))
arithmetic_opcode (Sllc r) = two 0x48 (0x04 + (r2_code r))
arithmetic_opcode (Slrc r) = two 0x48 ((r2_code r))
arithmetic_opcode Drll = two 0x48 0xb4
arithmetic_opcode Drlr = two 0x48 0xb0
arithmetic_opcode Dsll = two 0x48 0xa4
arithmetic_opcode Dslr = two 0x48 0xa0

abbrev pub jump_opcode : Jump → Option Opcode
jump_opcode Jmp = one 0x54
jump_opcode Jb = one 0x21
jump_opcode (Jr n) = cond (nat_lt n 64) (one (0xc0 + n)) None
jump_opcode JreForward = one 0x4e
jump_opcode JreBackward = one 0x4f
jump_opcode Jea = two 0x48 0x28
jump_opcode Call = one 0x40
jump_opcode Calb = two 0x48 0x29
jump_opcode (Calf n) = cond (nat_lt n 8) (one (0x78 + n)) None
jump_opcode (Calt n) = cond (nat_lt n 32) (one (0x80 + n)) None
jump_opcode Softi = one 0x72
jump_opcode Ret = one 0xb8
jump_opcode Rets = one 0xb9
jump_opcode Reti = one 0x62

abbrev pub special_opcode : Special → Option Opcode
special_opcode (MovToSr n) = cond (writable n) (two 0x4d (0xc0 + n)) None
special_opcode (MovFromSr1 n) = cond (readable n) (two 0x4c (0xc0 + n)) None
special_opcode (MviSr2 n) = cond (both_ways n) (two 0x64 (n / 8 * 128 + n % 8)) None
special_opcode (OperateSr2 o n) = cond (both_ways n) (two 0x64 (n / 8 * 128 + 8 * (operation_code o) + n % 8)) None

abbrev pub control_opcode : Control → Option Opcode
control_opcode (Bit n) = cond (nat_lt n 8) (one (0x58 + n)) None
control_opcode (Sk f) = two 0x48 (0x08 + (flag_code f))
control_opcode (Skn f) = two 0x48 (0x18 + (flag_code f))
control_opcode (Skit l) = two 0x48 (0x40 + (number_of l))
control_opcode (Sknit l) = two 0x48 (0x60 + (number_of l))
control_opcode Nop = one 0x00
control_opcode Ei = one 0xaa
control_opcode Di = one 0xba
control_opcode Hlt = two 0x48 0x3b

abbrev pub encoded : Instruction → Option Opcode
encoded (family.Transfer i) = transfer_opcode i
encoded (family.Arithmetic i) = arithmetic_opcode i
encoded (family.Jump i) = jump_opcode i
encoded (family.Special i) = special_opcode i
encoded (family.Control i) = control_opcode i
