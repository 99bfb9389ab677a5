-- RET behind a call goes on behind it, of any machine whose stack pointer has 16 bits.
use Rattle.std.proofs.Common.{◌≡◌, ℕ, ◌<◌, arith}
use Rattle.panel.specs.Rules.{Rules}
use Rattle.isa.specs.Costs.{cost_of}
use Rattle.isa.specs.declared.instructions.Instruction.TheVariants as family
use Rattle.isa.specs.declared.instructions.Jump.{Jump}
use Rattle.isa.specs.declared.instructions.Jump.TheVariants.{Jmp, Jb, Jr, JreForward, JreBackward, Jea, Call, Calb, Calf, Calt, Softi, Ret, Rets, Reti}
use Rattle.machine.specs.Words.{past, back, word_at, pushed}
use Rattle.machine.specs.Registers.{with_pc, with_sp}
use Rattle.machine.specs.Model.{Model}
use Rattle.cpu_laws.specs.Widths.{Fitting}
use Rattle.cpu_laws.specs.Runs.{called_and_returned}
use Rattle.cpu_laws.specs.Laws.{gone_on, Open, CallReturns}
use Rattle.cpu_laws.proofs.Stack.{pushed_word}

-- the registers behind a call of n bytes, once PC and SP are read back
returned_from : {S : Type 0} (n : ℕ) (m : Model S) → m.core.registers.sp < 65536 → Open 1 m → Open 2 m
    → with_pc (word_at (pushed m.core.registers.sp (past m.core.registers.pc n) m.cells) (back m.core.registers.sp 2)) (with_sp (past (back m.core.registers.sp 2) 2) (gone_on n m.core.registers))
    ≡ gone_on n m.core.registers
returned_from n m fits first second =
    let s = m.core.registers in
    let pc = pushed_word m.cells s.sp (past s.pc n) (omega arith) first second in
    let sp : past (back s.sp 2) 2 ≡ s.sp = omega arith in
    λ i. with_pc (pc i) (with_sp (sp i) (gone_on n s))

pub call_returns : {S : Type 0} (rules : Rules S) (call : Jump) (m : Model S) → Fitting m.core.registers
    → CallReturns call m (called_and_returned rules call m)
call_returns rules Jmp m fits is first second = cc
call_returns rules Jb m fits is first second = cc
call_returns rules (Jr n) m fits is first second = cc
call_returns rules JreForward m fits is first second = cc
call_returns rules JreBackward m fits is first second = cc
call_returns rules Jea m fits is first second = cc
call_returns rules Call m fits is first second = returned_from (cost_of (family.Jump Call)).bytes m fits.sp first second
call_returns rules Calb m fits is first second = returned_from (cost_of (family.Jump Calb)).bytes m fits.sp first second
call_returns rules (Calf n) m fits is first second = returned_from (cost_of (family.Jump (Calf n))).bytes m fits.sp first second
call_returns rules (Calt n) m fits is first second = returned_from (cost_of (family.Jump (Calt n))).bytes m fits.sp first second
call_returns rules Softi m fits is first second = cc
call_returns rules Ret m fits is first second = cc
call_returns rules Rets m fits is first second = cc
call_returns rules Reti m fits is first second = cc
