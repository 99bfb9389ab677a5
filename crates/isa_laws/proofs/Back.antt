-- The opcode of each instruction decodes to it.
use Rattle.std.proofs.Common.{◌≡◌, ℕ, ◌+◌, ◌*◌, ◌/◌, ◌%◌, ◌≤◌, Bool, true, false, cond, ltb, Some, None, Ok, Option, refl, inl, inr, arith}
use Rattle.std.proofs.lemmas.Bool.{cases_lt, true≢false}
use Rattle.std.proofs.lemmas.Bool.Decides.{nat_tests}
use Rattle.alu.specs.Naming.{operation_code}
use Rattle.isa.specs.Special.{readable, writable, both_ways}
use Rattle.isa.specs.Codes.{register_at, r1_at, r2_at, rp_at, rp1_at, rp2_at, rp3_at, rpa2_at, rpa3_at, flag_at, operation_at, line_coded}
use Rattle.isa.specs.Decoding.{Decoded, decoded, behind_48, behind_4c, behind_4d, behind_60, behind_64, behind_70, behind_74}
use Rattle.isa.specs.Encoding.{encoded, one, two}
use Rattle.isa.specs.declared.encoding.Opcode.{Opcode}
use Rattle.isa.specs.declared.encoding.Opcode.TheVariants.{One, Two}
use Rattle.isa.specs.declared.instructions.Instruction.{Instruction}
use Rattle.isa.specs.declared.instructions.Instruction.TheVariants.{Transfer, Arithmetic, Jump, Special, Control}
use Rattle.isa.specs.declared.instructions.Transfer.TheVariants.{MovToR1, MovFromR1, MovLoad, MovStore, Mvi, Mviw, Mvix, Staw, Ldaw, Stax, Ldax, Exx, Exa, Exh, Block, DmovFromEa, DmovToEa, StoreRp, LoadRp, Steax, Ldeax, Push, Pop, Lxi, Table}
use Rattle.isa.specs.declared.instructions.Arithmetic.TheVariants.{OperateA, OperateR, OperateX, OperateByte, OperateRByte, OperateW, OperateWByte, OperateEa, Eadd, Esub, Mul, Div, Inr, Dcr, Inrw, Dcrw, Inx, Dcx, Daa, Stc, Clc, Nega, Rld, Rrd, Rll, Rlr, Sll, Slr, Sllc, Slrc, Drll, Drlr, Dsll, Dslr}
use Rattle.isa.specs.declared.instructions.Jump.TheVariants.{Jmp, Jb, Jr, JreForward, JreBackward, Jea, Call, Calb, Calf, Calt, Softi, Ret, Rets, Reti}
use Rattle.isa.specs.declared.instructions.Special.TheVariants.{MovToSr, MovFromSr1, MviSr2, OperateSr2}
use Rattle.isa.specs.declared.instructions.Control.TheVariants.{Bit, Sk, Skn, Skit, Sknit, Nop, Ei, Di, Hlt}
use Rattle.isa.proofs.Rows.{row, agree}
use Rattle.isa_laws.proofs.Operands.{by_register, by_r1, by_r2, by_rp, by_rp1, by_rp2, by_rp3, by_rpa2, by_rpa3, by_flag, by_operation, by_line}

-- what an opcode decodes to, whatever stands behind it, and what it should
abbrev pub reached : ℕ → Option Opcode → Option Decoded
reached s None = None
reached s (Some (One a)) = Some (decoded a s)
reached s (Some (Two a b)) = Some (decoded a b)

abbrev pub wanted : Option Opcode → Instruction → Option Decoded
wanted None i = None
wanted (Some o) i = Some (Ok i)

abbrev F : ℕ → Instruction → Option Decoded
F s i = reached s (encoded i)

abbrev G : Instruction → Option Decoded
G i = wanted (encoded i) i

-- past the codes that a number can be, there is no opcode
off : (b : Bool) (o : Option Opcode) (s : ℕ) (i : Instruction) → b ≡ false → reached s (cond b o None) ≡ wanted (cond b o None) i
off true o s i e = absurd (true≢false e)
off false o s i e = refl

module _ {X : Type 0} where
  below : (f g : ℕ → X) (m : ℕ) → row f 0 m ≡ row g 0 m → ((n : ℕ) → m ≤ n → f n ≡ g n) → (n : ℕ) → f n ≡ g n
  below f g m e high n = elim (cases_lt n m) [ inl h ↦ agree f g 0 m e n (omega arith) (omega arith) | inr h ↦ high n h ]

no_write : (n : ℕ) → 64 ≤ n → writable n ≡ false
no_write n h = grind (arith, nat_tests)

no_read : (n : ℕ) → 64 ≤ n → readable n ≡ false
no_read n h = grind (arith, nat_tests)

no_both : (n : ℕ) → 16 ≤ n → both_ways n ≡ false
no_both n h = grind (arith, nat_tests)

no_more : (n m : ℕ) → m ≤ n → ltb n m ≡ false
no_more n m h = grind (arith, nat_tests)

pub back : (s : ℕ) (i : Instruction) → F s i ≡ G i
unfolding register_at r1_at r2_at rp_at rp1_at rp2_at rp3_at rpa2_at rpa3_at flag_at operation_at line_coded behind_48 behind_4c behind_4d behind_60 behind_64 behind_70 behind_74
back s (Transfer (MovToR1 y)) = by_r1 (λ y. F s (Transfer (MovToR1 y))) (λ y. G (Transfer (MovToR1 y))) refl y
back s (Transfer (MovFromR1 y)) = by_r1 (λ y. F s (Transfer (MovFromR1 y))) (λ y. G (Transfer (MovFromR1 y))) refl y
back s (Special (MovToSr n)) = below (λ n. F s (Special (MovToSr n))) (λ n. G (Special (MovToSr n))) 64 refl (λ n h. off (writable n) (two 0x4d (0xc0 + n)) s (Special (MovToSr n)) (no_write n h)) n
back s (Special (MovFromSr1 n)) = below (λ n. F s (Special (MovFromSr1 n))) (λ n. G (Special (MovFromSr1 n))) 64 refl (λ n h. off (readable n) (two 0x4c (0xc0 + n)) s (Special (MovFromSr1 n)) (no_read n h)) n
back s (Transfer (MovLoad y)) = by_register (λ y. F s (Transfer (MovLoad y))) (λ y. G (Transfer (MovLoad y))) refl y
back s (Transfer (MovStore y)) = by_register (λ y. F s (Transfer (MovStore y))) (λ y. G (Transfer (MovStore y))) refl y
back s (Transfer (Mvi y)) = by_register (λ y. F s (Transfer (Mvi y))) (λ y. G (Transfer (Mvi y))) refl y
back s (Special (MviSr2 n)) = below (λ n. F s (Special (MviSr2 n))) (λ n. G (Special (MviSr2 n))) 16 refl (λ n h. off (both_ways n) (two 0x64 (n / 8 * 128 + n % 8)) s (Special (MviSr2 n)) (no_both n h)) n
back s (Transfer Mviw) = refl
back s (Transfer (Mvix y)) = by_rp3 (λ y. F s (Transfer (Mvix y))) (λ y. G (Transfer (Mvix y))) refl y
back s (Transfer Staw) = refl
back s (Transfer Ldaw) = refl
back s (Transfer (Stax y)) = by_rpa2 (λ y. F s (Transfer (Stax y))) (λ y. G (Transfer (Stax y))) refl y
back s (Transfer (Ldax y)) = by_rpa2 (λ y. F s (Transfer (Ldax y))) (λ y. G (Transfer (Ldax y))) refl y
back s (Transfer Exx) = refl
back s (Transfer Exa) = refl
back s (Transfer Exh) = refl
back s (Transfer Block) = refl
back s (Transfer (DmovFromEa y)) = by_rp3 (λ y. F s (Transfer (DmovFromEa y))) (λ y. G (Transfer (DmovFromEa y))) refl y
back s (Transfer (DmovToEa y)) = by_rp3 (λ y. F s (Transfer (DmovToEa y))) (λ y. G (Transfer (DmovToEa y))) refl y
back s (Transfer (StoreRp y)) = by_rp (λ y. F s (Transfer (StoreRp y))) (λ y. G (Transfer (StoreRp y))) refl y
back s (Transfer (LoadRp y)) = by_rp (λ y. F s (Transfer (LoadRp y))) (λ y. G (Transfer (LoadRp y))) refl y
back s (Transfer (Steax y)) = by_rpa3 (λ y. F s (Transfer (Steax y))) (λ y. G (Transfer (Steax y))) refl y
back s (Transfer (Ldeax y)) = by_rpa3 (λ y. F s (Transfer (Ldeax y))) (λ y. G (Transfer (Ldeax y))) refl y
back s (Transfer (Push y)) = by_rp1 (λ y. F s (Transfer (Push y))) (λ y. G (Transfer (Push y))) refl y
back s (Transfer (Pop y)) = by_rp1 (λ y. F s (Transfer (Pop y))) (λ y. G (Transfer (Pop y))) refl y
back s (Transfer (Lxi y)) = by_rp2 (λ y. F s (Transfer (Lxi y))) (λ y. G (Transfer (Lxi y))) refl y
back s (Transfer Table) = refl
back s (Arithmetic (OperateA o y)) =
    by_register (λ y. F s (Arithmetic (OperateA o y))) (λ y. G (Arithmetic (OperateA o y)))
    (by_operation (λ o. row (λ n. F s (Arithmetic (OperateA o (register_at n)))) 0 8) (λ o. row (λ n. G (Arithmetic (OperateA o (register_at n)))) 0 8) refl o) y
back s (Arithmetic (OperateR o y)) =
    by_register (λ y. F s (Arithmetic (OperateR o y))) (λ y. G (Arithmetic (OperateR o y)))
    (by_operation (λ o. row (λ n. F s (Arithmetic (OperateR o (register_at n)))) 0 8) (λ o. row (λ n. G (Arithmetic (OperateR o (register_at n)))) 0 8) refl o) y
back s (Arithmetic (OperateX o y)) =
    by_rpa2 (λ y. F s (Arithmetic (OperateX o y))) (λ y. G (Arithmetic (OperateX o y)))
    (by_operation (λ o. row (λ n. F s (Arithmetic (OperateX o (rpa2_at n)))) 0 16) (λ o. row (λ n. G (Arithmetic (OperateX o (rpa2_at n)))) 0 16) refl o) y
back s (Arithmetic (OperateByte y)) = by_operation (λ y. F s (Arithmetic (OperateByte y))) (λ y. G (Arithmetic (OperateByte y))) refl y
back s (Arithmetic (OperateRByte o y)) =
    by_register (λ y. F s (Arithmetic (OperateRByte o y))) (λ y. G (Arithmetic (OperateRByte o y)))
    (by_operation (λ o. row (λ n. F s (Arithmetic (OperateRByte o (register_at n)))) 0 8) (λ o. row (λ n. G (Arithmetic (OperateRByte o (register_at n)))) 0 8) refl o) y
back s (Special (OperateSr2 o n)) =
    below (λ n. F s (Special (OperateSr2 o n))) (λ n. G (Special (OperateSr2 o n))) 16
    (by_operation (λ o. row (λ n. F s (Special (OperateSr2 o n))) 0 16) (λ o. row (λ n. G (Special (OperateSr2 o n))) 0 16) refl o)
    (λ n h. off (both_ways n) (two 0x64 (n / 8 * 128 + 8 * operation_code o + n % 8)) s (Special (OperateSr2 o n)) (no_both n h)) n
back s (Arithmetic (OperateW y)) = by_operation (λ y. F s (Arithmetic (OperateW y))) (λ y. G (Arithmetic (OperateW y))) refl y
back s (Arithmetic (OperateWByte y)) = by_operation (λ y. F s (Arithmetic (OperateWByte y))) (λ y. G (Arithmetic (OperateWByte y))) refl y
back s (Arithmetic (OperateEa o y)) =
    by_rp3 (λ y. F s (Arithmetic (OperateEa o y))) (λ y. G (Arithmetic (OperateEa o y)))
    (by_operation (λ o. row (λ n. F s (Arithmetic (OperateEa o (rp3_at n)))) 0 4) (λ o. row (λ n. G (Arithmetic (OperateEa o (rp3_at n)))) 0 4) refl o) y
back s (Arithmetic (Eadd y)) = by_r2 (λ y. F s (Arithmetic (Eadd y))) (λ y. G (Arithmetic (Eadd y))) refl y
back s (Arithmetic (Esub y)) = by_r2 (λ y. F s (Arithmetic (Esub y))) (λ y. G (Arithmetic (Esub y))) refl y
back s (Arithmetic (Mul y)) = by_r2 (λ y. F s (Arithmetic (Mul y))) (λ y. G (Arithmetic (Mul y))) refl y
back s (Arithmetic (Div y)) = by_r2 (λ y. F s (Arithmetic (Div y))) (λ y. G (Arithmetic (Div y))) refl y
back s (Arithmetic (Inr y)) = by_r2 (λ y. F s (Arithmetic (Inr y))) (λ y. G (Arithmetic (Inr y))) refl y
back s (Arithmetic (Dcr y)) = by_r2 (λ y. F s (Arithmetic (Dcr y))) (λ y. G (Arithmetic (Dcr y))) refl y
back s (Arithmetic Inrw) = refl
back s (Arithmetic Dcrw) = refl
back s (Arithmetic (Inx y)) = by_rp2 (λ y. F s (Arithmetic (Inx y))) (λ y. G (Arithmetic (Inx y))) refl y
back s (Arithmetic (Dcx y)) = by_rp2 (λ y. F s (Arithmetic (Dcx y))) (λ y. G (Arithmetic (Dcx y))) refl y
back s (Arithmetic Daa) = refl
back s (Arithmetic Stc) = refl
back s (Arithmetic Clc) = refl
back s (Arithmetic Nega) = refl
back s (Arithmetic Rld) = refl
back s (Arithmetic Rrd) = refl
back s (Arithmetic (Rll y)) = by_r2 (λ y. F s (Arithmetic (Rll y))) (λ y. G (Arithmetic (Rll y))) refl y
back s (Arithmetic (Rlr y)) = by_r2 (λ y. F s (Arithmetic (Rlr y))) (λ y. G (Arithmetic (Rlr y))) refl y
back s (Arithmetic (Sll y)) = by_r2 (λ y. F s (Arithmetic (Sll y))) (λ y. G (Arithmetic (Sll y))) refl y
back s (Arithmetic (Slr y)) = by_r2 (λ y. F s (Arithmetic (Slr y))) (λ y. G (Arithmetic (Slr y))) refl y
back s (Arithmetic (Sllc y)) = by_r2 (λ y. F s (Arithmetic (Sllc y))) (λ y. G (Arithmetic (Sllc y))) refl y
back s (Arithmetic (Slrc y)) = by_r2 (λ y. F s (Arithmetic (Slrc y))) (λ y. G (Arithmetic (Slrc y))) refl y
back s (Arithmetic Drll) = refl
back s (Arithmetic Drlr) = refl
back s (Arithmetic Dsll) = refl
back s (Arithmetic Dslr) = refl
back s (Jump Jmp) = refl
back s (Jump Jb) = refl
back s (Jump (Jr n)) = below (λ n. F s (Jump (Jr n))) (λ n. G (Jump (Jr n))) 64 refl (λ n h. off (ltb n 64) (one (0xc0 + n)) s (Jump (Jr n)) (no_more n 64 h)) n
back s (Jump JreForward) = refl
back s (Jump JreBackward) = refl
back s (Jump Jea) = refl
back s (Jump Call) = refl
back s (Jump Calb) = refl
back s (Jump (Calf n)) = below (λ n. F s (Jump (Calf n))) (λ n. G (Jump (Calf n))) 8 refl (λ n h. off (ltb n 8) (one (0x78 + n)) s (Jump (Calf n)) (no_more n 8 h)) n
back s (Jump (Calt n)) = below (λ n. F s (Jump (Calt n))) (λ n. G (Jump (Calt n))) 32 refl (λ n h. off (ltb n 32) (one (0x80 + n)) s (Jump (Calt n)) (no_more n 32 h)) n
back s (Jump Softi) = refl
back s (Jump Ret) = refl
back s (Jump Rets) = refl
back s (Jump Reti) = refl
back s (Control (Bit n)) = below (λ n. F s (Control (Bit n))) (λ n. G (Control (Bit n))) 8 refl (λ n h. off (ltb n 8) (one (0x58 + n)) s (Control (Bit n)) (no_more n 8 h)) n
back s (Control (Sk y)) = by_flag (λ y. F s (Control (Sk y))) (λ y. G (Control (Sk y))) refl y
back s (Control (Skn y)) = by_flag (λ y. F s (Control (Skn y))) (λ y. G (Control (Skn y))) refl y
back s (Control (Skit y)) = by_line (λ y. F s (Control (Skit y))) (λ y. G (Control (Skit y))) refl y
back s (Control (Sknit y)) = by_line (λ y. F s (Control (Sknit y))) (λ y. G (Control (Sknit y))) refl y
back s (Control Nop) = refl
back s (Control Ei) = refl
back s (Control Di) = refl
back s (Control Hlt) = refl
