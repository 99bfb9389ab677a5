-- The bytes of each instruction, its states, and its states when it is skipped.
use Rattle.std.specs.Prelude.{ℕ, Bool, true, false, cond}
use Rattle.alu.specs.Naming.{storing}
use Rattle.isa.specs.declared.operands.Rpa2.{Rpa2}
use Rattle.isa.specs.declared.operands.Rpa2.TheVariants as rpa2
use Rattle.isa.specs.declared.operands.Rpa3.{Rpa3}
use Rattle.isa.specs.declared.operands.Rpa3.TheVariants as rpa3
use Rattle.isa.specs.declared.instructions.Instruction.{Instruction}
use Rattle.isa.specs.declared.instructions.Instruction.TheVariants as family
use Rattle.isa.specs.declared.instructions.Transfer.{Transfer}
use Rattle.isa.specs.declared.instructions.Transfer.TheVariants.{MovToR1, MovFromR1, MovLoad, MovStore, Mvi, Mviw, Mvix, Staw, Ldaw, Stax, Ldax, Exx, Exa, Exh, Block, DmovFromEa, DmovToEa, StoreRp, LoadRp, Steax, Ldeax, Push, Pop, Lxi, Table}
use Rattle.isa.specs.declared.instructions.Arithmetic.{Arithmetic}
use Rattle.isa.specs.declared.instructions.Arithmetic.TheVariants.{OperateA, OperateR, OperateX, OperateByte, OperateRByte, OperateW, OperateWByte, OperateEa, Eadd, Esub, Mul, Div, Inr, Dcr, Inrw, Dcrw, Inx, Dcx, Daa, Stc, Clc, Nega, Rld, Rrd, Rll, Rlr, Sll, Slr, Sllc, Slrc, Drll, Drlr, Dsll, Dslr}
use Rattle.isa.specs.declared.instructions.Jump.{Jump}
use Rattle.isa.specs.declared.instructions.Jump.TheVariants.{Jmp, Jb, Jr, JreForward, JreBackward, Jea, Call, Calb, Calf, Calt, Softi, Ret, Rets, Reti}
use Rattle.isa.specs.declared.instructions.Special.{Special}
use Rattle.isa.specs.declared.instructions.Special.TheVariants.{MovToSr, MovFromSr1, MviSr2, OperateSr2}
use Rattle.isa.specs.declared.instructions.Control.{Control}
use Rattle.isa.specs.declared.instructions.Control.TheVariants.{Bit, Sk, Skn, Skit, Sknit, Nop, Ei, Di, Hlt}

pub record Cost : Type 0 where
  pub bytes : ℕ
  pub states : ℕ
  pub skipped : ℕ

abbrev pub cost : ℕ → ℕ → ℕ → Cost
cost b s k = record { bytes = b; states = s; skipped = k }

-- whether an addressing takes a byte behind the opcode
abbrev pub rpa2_takes_byte : Rpa2 → Bool
rpa2_takes_byte rpa2.Bc = false
rpa2_takes_byte rpa2.De = false
rpa2_takes_byte rpa2.Hl = false
rpa2_takes_byte rpa2.DeUp = false
rpa2_takes_byte rpa2.HlUp = false
rpa2_takes_byte rpa2.DeDown = false
rpa2_takes_byte rpa2.HlDown = false
rpa2_takes_byte rpa2.DeByte = true
rpa2_takes_byte rpa2.HlA = false
rpa2_takes_byte rpa2.HlB = false
rpa2_takes_byte rpa2.HlEa = false
rpa2_takes_byte rpa2.HlByte = true

-- the same of a word
abbrev pub rpa3_takes_byte : Rpa3 → Bool
rpa3_takes_byte rpa3.De = false
rpa3_takes_byte rpa3.Hl = false
rpa3_takes_byte rpa3.DeUpTwo = false
rpa3_takes_byte rpa3.HlUpTwo = false
rpa3_takes_byte rpa3.DeByte = true
rpa3_takes_byte rpa3.HlA = false
rpa3_takes_byte rpa3.HlB = false
rpa3_takes_byte rpa3.HlEa = false
rpa3_takes_byte rpa3.HlByte = true

-- whether it adds something to the pair
abbrev pub rpa2_adds : Rpa2 → Bool
rpa2_adds rpa2.Bc = false
rpa2_adds rpa2.De = false
rpa2_adds rpa2.Hl = false
rpa2_adds rpa2.DeUp = false
rpa2_adds rpa2.HlUp = false
rpa2_adds rpa2.DeDown = false
rpa2_adds rpa2.HlDown = false
rpa2_adds rpa2.DeByte = true
rpa2_adds rpa2.HlA = true
rpa2_adds rpa2.HlB = true
rpa2_adds rpa2.HlEa = true
rpa2_adds rpa2.HlByte = true

-- the same of a word
abbrev pub rpa3_adds : Rpa3 → Bool
rpa3_adds rpa3.De = false
rpa3_adds rpa3.Hl = false
rpa3_adds rpa3.DeUpTwo = false
rpa3_adds rpa3.HlUpTwo = false
rpa3_adds rpa3.DeByte = true
rpa3_adds rpa3.HlA = true
rpa3_adds rpa3.HlB = true
rpa3_adds rpa3.HlEa = true
rpa3_adds rpa3.HlByte = true

abbrev pub transfer_cost : Transfer → Cost
transfer_cost (MovToR1 r) = cost 1 4 4
transfer_cost (MovFromR1 r) = cost 1 4 4
transfer_cost (MovLoad r) = cost 4 17 14
transfer_cost (MovStore r) = cost 4 17 14
transfer_cost (Mvi r) = cost 2 7 7
transfer_cost Mviw = cost 3 13 10
transfer_cost (Mvix p) = cost 2 10 7
transfer_cost Staw = cost 2 10 7
transfer_cost Ldaw = cost 2 10 7
transfer_cost (Stax a) = cost (cond (rpa2_takes_byte a) 2 1) (cond (rpa2_adds a) 13 7) (cond (rpa2_adds a) 7 4)
transfer_cost (Ldax a) = cost (cond (rpa2_takes_byte a) 2 1) (cond (rpa2_adds a) 13 7) (cond (rpa2_adds a) 7 4)
transfer_cost Exx = cost 1 4 4
transfer_cost Exa = cost 1 4 4
transfer_cost Exh = cost 1 4 4
transfer_cost Block = cost 1 13 4
transfer_cost (DmovFromEa p) = cost 1 4 4
transfer_cost (DmovToEa p) = cost 1 4 4
transfer_cost (StoreRp p) = cost 4 20 14
transfer_cost (LoadRp p) = cost 4 20 14
transfer_cost (Steax a) = cost (cond (rpa3_takes_byte a) 3 2) (cond (rpa3_adds a) 20 14) (cond (rpa3_adds a) 11 8)
transfer_cost (Ldeax a) = cost (cond (rpa3_takes_byte a) 3 2) (cond (rpa3_adds a) 20 14) (cond (rpa3_adds a) 11 8)
transfer_cost (Push p) = cost 1 13 4
transfer_cost (Pop p) = cost 1 10 4
transfer_cost (Lxi p) = cost 3 10 10
transfer_cost Table = cost 2 17 8

abbrev pub arithmetic_cost : Arithmetic → Cost
arithmetic_cost (OperateA o r) = cost 2 8 8
arithmetic_cost (OperateR o r) = cost 2 8 8
arithmetic_cost (OperateX o a) = cost 2 11 8
arithmetic_cost (OperateByte o) = cost 2 7 7
arithmetic_cost (OperateRByte o r) = cost 3 11 11
arithmetic_cost (OperateW o) = cost 3 14 11
arithmetic_cost (OperateWByte o) = cost 3 (cond (storing o) 19 13) 10
arithmetic_cost (OperateEa o p) = cost 2 11 8
arithmetic_cost (Eadd r) = cost 2 11 8
arithmetic_cost (Esub r) = cost 2 11 8
arithmetic_cost (Mul r) = cost 2 32 8
arithmetic_cost (Div r) = cost 2 59 8
arithmetic_cost (Inr r) = cost 1 4 4
arithmetic_cost (Dcr r) = cost 1 4 4
arithmetic_cost Inrw = cost 2 16 7
arithmetic_cost Dcrw = cost 2 16 7
arithmetic_cost (Inx p) = cost 1 7 4
arithmetic_cost (Dcx p) = cost 1 7 4
arithmetic_cost Daa = cost 1 4 4
arithmetic_cost Stc = cost 2 8 8
arithmetic_cost Clc = cost 2 8 8
arithmetic_cost Nega = cost 2 8 8
arithmetic_cost Rld = cost 2 17 8
arithmetic_cost Rrd = cost 2 17 8
arithmetic_cost (Rll r) = cost 2 8 8
arithmetic_cost (Rlr r) = cost 2 8 8
arithmetic_cost (Sll r) = cost 2 8 8
arithmetic_cost (Slr r) = cost 2 8 8
arithmetic_cost (Sllc r) = cost 2 8 8
arithmetic_cost (Slrc r) = cost 2 8 8
arithmetic_cost Drll = cost 2 8 8
arithmetic_cost Drlr = cost 2 8 8
arithmetic_cost Dsll = cost 2 8 8
arithmetic_cost Dslr = cost 2 8 8

abbrev pub jump_cost : Jump → Cost
jump_cost Jmp = cost 3 10 10
jump_cost Jb = cost 1 4 4
jump_cost (Jr n) = cost 1 10 4
jump_cost JreForward = cost 2 10 7
jump_cost JreBackward = cost 2 10 7
jump_cost Jea = cost 2 8 8
jump_cost Call = cost 3 16 10
jump_cost Calb = cost 2 17 8
jump_cost (Calf n) = cost 2 13 7
jump_cost (Calt n) = cost 1 16 4
jump_cost Softi = cost 1 16 4
jump_cost Ret = cost 1 10 4
jump_cost Rets = cost 1 10 4
jump_cost Reti = cost 1 13 4

abbrev pub special_cost : Special → Cost
special_cost (MovToSr n) = cost 2 10 8
special_cost (MovFromSr1 n) = cost 2 10 8
special_cost (MviSr2 n) = cost 3 14 11
special_cost (OperateSr2 o n) = cost 3 (cond (storing o) 20 14) 11

abbrev pub control_cost : Control → Cost
control_cost (Bit n) = cost 2 10 7
control_cost (Sk f) = cost 2 8 8
control_cost (Skn f) = cost 2 8 8
control_cost (Skit l) = cost 2 8 8
control_cost (Sknit l) = cost 2 8 8
control_cost Nop = cost 1 4 4
control_cost Ei = cost 1 4 4
control_cost Di = cost 1 4 4
control_cost Hlt = cost 2 11 8

abbrev pub cost_of : Instruction → Cost
cost_of (family.Transfer i) = transfer_cost i
cost_of (family.Arithmetic i) = arithmetic_cost i
cost_of (family.Jump i) = jump_cost i
cost_of (family.Special i) = special_cost i
cost_of (family.Control i) = control_cost i
