-- What two instructions, or a step and an instruction, make of a machine one after the other.
use Rattle.panel.specs.Rules.{Rules}
use Rattle.isa.specs.declared.operands.Rp1.{Rp1}
use Rattle.isa.specs.declared.instructions.Instruction.TheVariants as family
use Rattle.isa.specs.declared.instructions.Jump.{Jump}
use Rattle.isa.specs.declared.instructions.Jump.TheVariants.{Ret, Reti}
use Rattle.isa.specs.declared.instructions.Transfer.TheVariants.{Push, Pop}
use Rattle.machine.specs.Model.{Model}
use Rattle.machine.specs.Instructions.{executed}
use Rattle.cpu.specs.Step.{Outcome, counts, stops, outcome, after}

module _ {S : Type 0} (rules : Rules S) where
  -- a call and RET
  abbrev pub called_and_returned : Jump → Model S → Model S
  called_and_returned call m = executed rules (family.Jump Ret) (executed rules (family.Jump call) m)

  -- PUSH and POP of one pair
  abbrev pub pushed_and_popped : Rp1 → Model S → Model S
  pushed_and_popped pair m = executed rules (family.Transfer (Pop pair)) (executed rules (family.Transfer (Push pair)) m)

  -- a step, and RETI unless it stopped at an undefined code, which changes nothing
  abbrev pub stepped_and_returned : Outcome S → Model S → Model S
  stepped_and_returned (counts n made) m = executed rules (family.Jump Reti) (after rules (counts n made) m)
  stepped_and_returned (stops code) m = m

  -- the same of the step that there is to make
  abbrev pub entered_and_returned : Model S → Model S
  entered_and_returned m = stepped_and_returned (outcome rules m) m
