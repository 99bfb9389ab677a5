-- RETI behind an entry restores every register, of any machine whose stack pointer and PC have 16 bits.
use Rattle.std.proofs.Common.{◌≡◌, ℕ, Ok, Err, sym, refl, ap, ◌∙◌, subst, arith}
use Rattle.registers.specs.Psw.{psw, flags_of}
use Rattle.registers.proofs.Inverse.{flags_again}
use Rattle.lines.specs.declared.level.Level.{Level}
use Rattle.board.specs.declared.Board.{Ghosts as BoardGhosts}
use Rattle.panel.specs.declared.Panel.{Ghosts as PanelGhosts}
use Rattle.panel.specs.Rules.{Rules}
use Rattle.isa.specs.declared.instructions.Instruction.TheVariants as family
use Rattle.isa.specs.declared.instructions.Jump.TheVariants.{Reti}
use Rattle.machine.specs.declared.parts.Machine.{Machine}
use Rattle.machine.specs.Words.{past, back}
use Rattle.machine.specs.Registers.{with_pc, with_sp, with_flags}
use Rattle.machine.specs.Model.{Model}
use Rattle.machine.specs.Of.{model_of}
use Rattle.machine.specs.Effects.{Runs}
use Rattle.machine.proofs.Effects.{then}
use Rattle.machine.specs.Instructions.{executed}
use Rattle.cpu.specs.declared.codes.UndefinedCode.{UndefinedCode}
use Rattle.cpu.specs.Step.{Choice, entry, done, outcome, answer, after, stepped}
use Rattle.cpu.proofs.Outcomes.{stopped, counted}
use Rattle.cpu_laws.specs.Widths.{Fitting}
use Rattle.cpu_laws.specs.Runs.{stepped_and_returned, entered_and_returned}
use Rattle.cpu_laws.specs.Laws.{Open, EntryReturns}
use Rattle.cpu_laws.proofs.Stack.{status_address, status_byte}

module _ {S : Type 0} (rules : Rules S) where
  -- RETI right behind the entry of a level
  level_returned : (level : Level) (m : Model S) → Fitting m.core.registers → Open 1 m → Open 2 m → Open 3 m
      → (stepped_and_returned rules (done rules (entry level) m) m).core.registers ≡ m.core.registers
  level_returned level m fits first second third =
      let s = m.core.registers in
      let status = psw s.flags in
      let flags = ap flags_of (status_byte m.cells s.sp status s.pc first) ∙ flags_again s.flags in
      let pc = status_address m.cells s.sp status s.pc fits.pc second third in
      let sp : past (back s.sp 3) 3 ≡ s.sp = omega (arith, fits.sp) in
      λ i. with_flags (flags i) (with_pc (pc i) (with_sp (sp i) s))

  pub entry_returns : (m : Model S) → Fitting m.core.registers → EntryReturns m (entered_and_returned rules m)
  entry_returns m fits level is first second third =
      subst (λ (c : Choice). (stepped_and_returned rules (done rules c m) m).core.registers ≡ m.core.registers) (sym is)
      (level_returned level m fits first second third)

-- from a step to the run, by its answer
module _ {B P : Type 0} (board : BoardGhosts B) (panel : PanelGhosts P) where
  pub if_stopped : {old new : Machine B P} {code : UndefinedCode}
      → Runs board panel (stepped panel.rules) old new → Err code ≡ answer (outcome panel.rules (model_of board panel old))
      → Runs board panel (entered_and_returned panel.rules) old new
  if_stopped {old} {new} {code} step answered =
      let m = model_of board panel old in
      record { after = step.after ∙ stopped (λ o. after panel.rules o m ≡ stepped_and_returned panel.rules o m) (λ c. refl) (outcome panel.rules m) code answered; keeps = step.keeps }

  pub if_counted : {old new later : Machine B P} {n : ℕ}
      → Runs board panel (stepped panel.rules) old new → Ok n ≡ answer (outcome panel.rules (model_of board panel old))
      → Runs board panel (executed panel.rules (family.Jump Reti)) new later → Runs board panel (entered_and_returned panel.rules) old later
  if_counted {old} {new} {later} {n} step answered reti =
      let m = model_of board panel old in
      let done = then board panel step reti in
      record { after = done.after ∙ counted n (λ o. executed panel.rules (family.Jump Reti) (after panel.rules o m) ≡ stepped_and_returned panel.rules o m) (λ made. refl) (outcome panel.rules m) answered; keeps = done.keeps }
