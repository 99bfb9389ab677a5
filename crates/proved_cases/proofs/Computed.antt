-- The worked cases, which antt computes.
use Rattle.std.proofs.Common.{refl}
use Rattle.lines.specs.Sets.{bit}
use Rattle.board.specs.Cells.{written}
use Rattle.panel.specs.Rules.{Rules}
use Rattle.isa.specs.Codes.{register_at, operation_at}
use Rattle.isa.specs.Decoding.{behind_60, behind_64, behind_74}
use Rattle.cpu.specs.Codes.{code_at}
use Rattle.proved_cases.specs.Cases.{Worked}

pub worked : {S : Type 0} (rules : Rules S) → Worked rules
unfolding code_at behind_60 behind_64 behind_74 register_at operation_at bit written
worked rules = record {
  less = λ s. record { below = refl; equal = refl };
  greater = λ s. record { above_skips = refl; above_zero = refl; equal_skips = refl; equal_zero = refl };
  jumps = λ s. record { backward = refl; forward = refl; extended = refl };
  undefined_on = λ s. record { told = refl; unchanged = refl };
  undefined_special = λ s. record { told = refl; unchanged = refl };
  undefined_zero = λ s. record { told = refl; unchanged = refl };
  overlay = λ s. record { a = refl; pc = refl; first_states = refl; second_states = refl };
  entry = λ s. record { low = refl; high = refl; pc = refl; sp = refl };
}
