-- Shifts and rotates by one bit, once over the width.
use Rattle.std.specs.Prelude.{ℕ, ◌+◌, ◌*◌, ◌/◌, ◌%◌, Bool, false, cond, ◌==◌, nat_le}
use Rattle.registers.specs.declared.flags.Flags.{Flags}
use Rattle.registers.specs.Psw.{one}
use Rattle.alu.specs.declared.shifts.Shift.{Shift}
use Rattle.alu.specs.declared.shifts.Shift.TheVariants.{Right, Left, RotateRight, RotateLeft}
use Rattle.alu.specs.declared.width.Width.{Width}
use Rattle.alu.specs.Widths.{whole}

-- a value moved by one place, and the bit that went out
pub record Moved : Type 0 where
  pub moved : ℕ
  pub out : Bool

-- to the right, with a bit in at the top
abbrev pub rightward : Width → ℕ → Bool → Moved
rightward w x b = record { moved = x / 2 + cond b (whole w / 2) 0; out = (x % 2 == 1) }

-- to the left, with a bit in at the bottom
abbrev pub leftward : Width → ℕ → Bool → Moved
leftward w x b = record { moved = (2 * x + one b) % whole w; out = nat_le (whole w / 2) x }

-- into a shift comes 0, into a rotate CY
abbrev pub shifting : Shift → Width → ℕ → Bool → Moved
shifting Right w x c = rightward w x false
shifting Left w x c = leftward w x false
shifting RotateRight w x c = rightward w x c
shifting RotateLeft w x c = leftward w x c

-- as many low bits of a value as the width has, moved
abbrev pub shifted : Shift → Width → ℕ → Bool → Moved
shifted s w x c = shifting s w (x % whole w) c

-- the flags with CY, and with SK and CY
abbrev pub with_carry : Bool → Flags → Flags
with_carry c f = record { zero = f.zero; skip = f.skip; half = f.half; l1 = f.l1; l0 = f.l0; carry = c }

abbrev pub with_carry_and_skip : Bool → Flags → Flags
with_carry_and_skip c f = record { zero = f.zero; skip = c; half = f.half; l1 = f.l1; l0 = f.l0; carry = c }
