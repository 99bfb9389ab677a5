-- Decoding: what each first byte means, and behind a prefix each second byte.
use Rattle.std.specs.Prelude.{ℕ, ◌+◌, ◌*◌, ◌/◌, ◌%◌, cond, not, ◌&&◌, ◌||◌, Ok, Err, Result, ◌==◌, nat_le, nat_lt}
use Rattle.isa.specs.Special.{within, readable, writable, both_ways}
use Rattle.isa.specs.Codes.{flag_at, line_coded, operation_at, r1_at, r2_at, register_at, rp_at, rp1_at, rp2_at, rp3_at, rpa2_at, rpa3_at}
use Rattle.isa.specs.declared.operands.Rp2.TheVariants as rp2
use Rattle.isa.specs.declared.decoding.Undefined.{Undefined}
use Rattle.isa.specs.declared.decoding.Undefined.TheVariants.{First, Second}
use Rattle.isa.specs.declared.instructions.Instruction.{Instruction}
use Rattle.isa.specs.declared.instructions.Instruction.TheVariants.{Transfer, Arithmetic, Jump, Special, Control}
use Rattle.isa.specs.declared.instructions.Transfer.TheVariants.{MovToR1, MovFromR1, MovLoad, MovStore, Mvi, Mviw, Mvix, Staw, Ldaw, Stax, Ldax, Exx, Exa, Exh, Block, DmovFromEa, DmovToEa, StoreRp, LoadRp, Steax, Ldeax, Push, Pop, Lxi, Table}
use Rattle.isa.specs.declared.instructions.Arithmetic.TheVariants.{OperateA, OperateR, OperateX, OperateByte, OperateRByte, OperateW, OperateWByte, OperateEa, Eadd, Esub, Mul, Div, Inr, Dcr, Inrw, Dcrw, Inx, Dcx, Daa, Stc, Clc, Nega, Rld, Rrd, Rll, Rlr, Sll, Slr, Sllc, Slrc, Drll, Drlr, Dsll, Dslr}
use Rattle.isa.specs.declared.instructions.Jump.TheVariants.{Jmp, Jb, Jr, JreForward, JreBackward, Jea, Call, Calb, Calf, Calt, Softi, Ret, Rets, Reti}
use Rattle.isa.specs.declared.instructions.Special.TheVariants.{MovToSr, MovFromSr1, MviSr2, OperateSr2}
use Rattle.isa.specs.declared.instructions.Control.TheVariants.{Bit, Sk, Skn, Skit, Sknit, Nop, Ei, Di, Hlt}

abbrev pub Decoded : Type 0
Decoded = Result Instruction Undefined

-- the operation's code, bits 6 to 3 of a second byte
abbrev pub kind : ℕ → ℕ
kind second = second / 8 % 16

-- the code of sr2, bit 7 over bits 2 to 0
abbrev pub special_code : ℕ → ℕ
special_code second = second % 8 + second / 128 * 8

abbrev pub table_48 : ℕ → Decoded
table_48 second =
    cond (within 0x01 0x03 second) (Ok (Arithmetic (Slrc (r2_at (second % 4))))) (
    cond (within 0x05 0x07 second) (Ok (Arithmetic (Sllc (r2_at (second % 4))))) (
    cond (within 0x0a 0x0c second) (Ok (Control (Sk (flag_at (second % 8))))) (
    cond (within 0x1a 0x1c second) (Ok (Control (Skn (flag_at (second % 8))))) (
    cond (within 0x21 0x23 second) (Ok (Arithmetic (Slr (r2_at (second % 4))))) (
    cond (within 0x25 0x27 second) (Ok (Arithmetic (Sll (r2_at (second % 4))))) (
    cond (second == 0x28) (Ok (Jump Jea)) (
    cond (second == 0x29) (Ok (Jump Calb)) (
    cond (second == 0x2a) (Ok (Arithmetic Clc)) (
    cond (second == 0x2b) (Ok (Arithmetic Stc)) (
    cond (within 0x2d 0x2f second) (Ok (Arithmetic (Mul (r2_at (second % 4))))) (
    cond (within 0x31 0x33 second) (Ok (Arithmetic (Rlr (r2_at (second % 4))))) (
    cond (within 0x35 0x37 second) (Ok (Arithmetic (Rll (r2_at (second % 4))))) (
    cond (second == 0x38) (Ok (Arithmetic Rld)) (
    cond (second == 0x39) (Ok (Arithmetic Rrd)) (
    cond (second == 0x3a) (Ok (Arithmetic Nega)) (
    cond (second == 0x3b) (Ok (Control Hlt)) (
    cond (within 0x3d 0x3f second) (Ok (Arithmetic (Div (r2_at (second % 4))))) (
    cond (within 0x40 0x4a second) (Ok (Control (Skit (line_coded (second % 16))))) (
    cond (within 0x60 0x6a second) (Ok (Control (Sknit (line_coded (second % 16))))) (
    cond (within 0x82 0x85 second || (within 0x8b 0x8f second)) (Ok (Transfer (Ldeax (rpa3_at (second % 16))))) (
    cond (within 0x92 0x95 second || (within 0x9b 0x9f second)) (Ok (Transfer (Steax (rpa3_at (second % 16))))) (
    cond (second == 0xa0) (Ok (Arithmetic Dslr)) (
    cond (second == 0xa4) (Ok (Arithmetic Dsll)) (
    cond (second == 0xa8) (Ok (Transfer Table)) (
    cond (second == 0xb0) (Ok (Arithmetic Drlr)) (
    cond (second == 0xb4) (Ok (Arithmetic Drll)) (
    Err Second)))))))))))))))))))))))))))

abbrev pub table_4c : ℕ → Decoded
table_4c second = cond (nat_le 0xc0 second && readable (second % 64)) (Ok (Special (MovFromSr1 (second % 64)))) (Err Second)

abbrev pub table_4d : ℕ → Decoded
table_4d second = cond (nat_le 0xc0 second && writable (second % 64)) (Ok (Special (MovToSr (second % 64)))) (Err Second)

abbrev pub table_60 : ℕ → Decoded
table_60 second =
    cond (kind second == 0) (Err Second) (
    cond (nat_le 0x80 second) (Ok (Arithmetic (OperateA (operation_at (kind second)) (register_at (second % 8))))) (
    cond (kind second == 9 || kind second == 11) (Err Second) (
    Ok (Arithmetic (OperateR (operation_at (kind second)) (register_at (second % 8)))))))

abbrev pub table_64 : ℕ → Decoded
table_64 second =
    cond (not (both_ways (special_code second))) (Err Second) (
    cond (kind second == 0) (Ok (Special (MviSr2 (special_code second)))) (
    Ok (Special (OperateSr2 (operation_at (kind second)) (special_code second)))))

abbrev pub low_70 : ℕ → Decoded
low_70 second =
    cond (second == 0x0e || (second == 0x1e || (second == 0x2e || (second == 0x3e)))) (Ok (Transfer (StoreRp (rp_at (second / 16))))) (
    cond (second == 0x0f || (second == 0x1f || (second == 0x2f || (second == 0x3f)))) (Ok (Transfer (LoadRp (rp_at (second / 16))))) (
    cond (within 0x41 0x43 second) (Ok (Arithmetic (Eadd (r2_at (second % 4))))) (
    cond (within 0x61 0x63 second) (Ok (Arithmetic (Esub (r2_at (second % 4))))) (
    cond (within 0x68 0x6f second) (Ok (Transfer (MovLoad (register_at (second % 8))))) (
    cond (within 0x78 0x7f second) (Ok (Transfer (MovStore (register_at (second % 8))))) (
    Err Second))))))

abbrev pub high_70 : ℕ → Decoded
high_70 second =
    cond (kind second == 0 || second % 8 == 0) (Err Second) (
    Ok (Arithmetic (OperateX (operation_at (kind second)) (rpa2_at (second % 8)))))

abbrev pub table_70 : ℕ → Decoded
table_70 second = cond (nat_lt second 0x80) (low_70 second) (high_70 second)

abbrev pub table_74 : ℕ → Decoded
table_74 second =
    cond (kind second == 0) (Err Second) (
    cond (nat_lt second 0x80) (Ok (Arithmetic (OperateRByte (operation_at (kind second)) (register_at (second % 8))))) (
    cond (second % 8 == 0) (Ok (Arithmetic (OperateW (operation_at (kind second))))) (
    cond (nat_lt 4 (second % 8)) (Ok (Arithmetic (OperateEa (operation_at (kind second)) (rp3_at (second % 4))))) (
    Err Second))))

unfoldable pub behind_48 : ℕ → Decoded
behind_48 second = table_48 second

unfoldable pub behind_4c : ℕ → Decoded
behind_4c second = table_4c second

unfoldable pub behind_4d : ℕ → Decoded
behind_4d second = table_4d second

unfoldable pub behind_60 : ℕ → Decoded
behind_60 second = table_60 second

unfoldable pub behind_64 : ℕ → Decoded
behind_64 second = table_64 second

unfoldable pub behind_70 : ℕ → Decoded
behind_70 second = table_70 second

unfoldable pub behind_74 : ℕ → Decoded
behind_74 second = table_74 second

abbrev pub decoded : ℕ → ℕ → Decoded
decoded first second =
    cond (first == 0x00) (Ok (Control Nop)) (
    cond (first == 0x01) (Ok (Transfer Ldaw)) (
    cond (first == 0x02 || (first == 0x12 || (first == 0x22 || (first == 0x32)))) (Ok (Arithmetic (Inx (rp2_at (first / 16))))) (
    cond (first == 0x03 || (first == 0x13 || (first == 0x23 || (first == 0x33)))) (Ok (Arithmetic (Dcx (rp2_at (first / 16))))) (
    cond (first == 0x04 || (first == 0x14 || (first == 0x24 || (first == 0x34 || (first == 0x44))))) (Ok (Transfer (Lxi (rp2_at (first / 16))))) (
    cond (first == 0x05 || (first == 0x15 || (first == 0x25 || (first == 0x35 || (first == 0x45 || (first == 0x55 || (first == 0x65 || (first == 0x75)))))))) (Ok (Arithmetic (OperateWByte (operation_at (first / 16 * 2 + 1))))) (
    cond (first == 0x16 || (first == 0x26 || (first == 0x36 || (first == 0x46 || (first == 0x56 || (first == 0x66 || (first == 0x76))))))) (Ok (Arithmetic (OperateByte (operation_at (first / 16 * 2))))) (
    cond (first == 0x07 || (first == 0x17 || (first == 0x27 || (first == 0x37 || (first == 0x47 || (first == 0x57 || (first == 0x67 || (first == 0x77)))))))) (Ok (Arithmetic (OperateByte (operation_at (first / 16 * 2 + 1))))) (
    cond (first == 0x06 || (first == 0x28 || (first == 0x38 || (first == 0x73)))) (Err First) (
    cond (within 0x08 0x0f first) (Ok (Transfer (MovFromR1 (r1_at (first % 8))))) (
    cond (first == 0x10) (Ok (Transfer Exa)) (
    cond (first == 0x11) (Ok (Transfer Exx)) (
    cond (within 0x18 0x1f first) (Ok (Transfer (MovToR1 (r1_at (first % 8))))) (
    cond (first == 0x20) (Ok (Arithmetic Inrw)) (
    cond (first == 0x21) (Ok (Jump Jb)) (
    cond (within 0x29 0x2f first) (Ok (Transfer (Ldax (rpa2_at (first % 8))))) (
    cond (first == 0x30) (Ok (Arithmetic Dcrw)) (
    cond (first == 0x31) (Ok (Transfer Block)) (
    cond (within 0x39 0x3f first) (Ok (Transfer (Stax (rpa2_at (first % 8))))) (
    cond (first == 0x40) (Ok (Jump Call)) (
    cond (within 0x41 0x43 first) (Ok (Arithmetic (Inr (r2_at (first % 4))))) (
    cond (first == 0x48) (behind_48 second) (
    cond (within 0x49 0x4b first) (Ok (Transfer (Mvix (rp3_at (first % 4))))) (
    cond (first == 0x4c) (behind_4c second) (
    cond (first == 0x4d) (behind_4d second) (
    cond (first == 0x4e) (Ok (Jump JreForward)) (
    cond (first == 0x4f) (Ok (Jump JreBackward)) (
    cond (first == 0x50) (Ok (Transfer Exh)) (
    cond (within 0x51 0x53 first) (Ok (Arithmetic (Dcr (r2_at (first % 4))))) (
    cond (first == 0x54) (Ok (Jump Jmp)) (
    cond (within 0x58 0x5f first) (Ok (Control (Bit (first % 8)))) (
    cond (first == 0x60) (behind_60 second) (
    cond (first == 0x61) (Ok (Arithmetic Daa)) (
    cond (first == 0x62) (Ok (Jump Reti)) (
    cond (first == 0x63) (Ok (Transfer Staw)) (
    cond (first == 0x64) (behind_64 second) (
    cond (within 0x68 0x6f first) (Ok (Transfer (Mvi (register_at (first % 8))))) (
    cond (first == 0x70) (behind_70 second) (
    cond (first == 0x71) (Ok (Transfer Mviw)) (
    cond (first == 0x72) (Ok (Jump Softi)) (
    cond (first == 0x74) (behind_74 second) (
    cond (within 0x78 0x7f first) (Ok (Jump (Calf (first % 8)))) (
    cond (within 0x80 0x9f first) (Ok (Jump (Calt (first % 32)))) (
    cond (within 0xa0 0xa4 first) (Ok (Transfer (Pop (rp1_at (first % 8))))) (
    cond (within 0xa5 0xa7 first) (Ok (Transfer (DmovToEa (rp3_at (first % 4))))) (
    cond (first == 0xa8) (Ok (Arithmetic (Inx rp2.Ea))) (
    cond (first == 0xa9) (Ok (Arithmetic (Dcx rp2.Ea))) (
    cond (first == 0xaa) (Ok (Control Ei)) (
    cond (within 0xab 0xaf first) (Ok (Transfer (Ldax (rpa2_at (first % 16))))) (
    cond (within 0xb0 0xb4 first) (Ok (Transfer (Push (rp1_at (first % 8))))) (
    cond (within 0xb5 0xb7 first) (Ok (Transfer (DmovFromEa (rp3_at (first % 4))))) (
    cond (first == 0xb8) (Ok (Jump Ret)) (
    cond (first == 0xb9) (Ok (Jump Rets)) (
    cond (first == 0xba) (Ok (Control Di)) (
    cond (within 0xbb 0xbf first) (Ok (Transfer (Stax (rpa2_at (first % 16))))) (
    cond (within 0xc0 0xff first) (Ok (Jump (Jr (first % 64)))) (
    Err First))))))))))))))))))))))))))))))))))))))))))))))))))))))))
