-- Sums and differences, once over the width, and the flags that take their carries.
use Rattle.std.specs.Prelude.{ℕ, ◌+◌, ◌-◌, ◌%◌, Bool, ◌==◌, nat_le, nat_lt}
use Rattle.registers.specs.declared.flags.Flags.{Flags}
use Rattle.registers.specs.Psw.{one}
use Rattle.alu.specs.declared.width.Width.{Width}
use Rattle.alu.specs.Widths.{whole, part}

-- a value, with HC and CY as they are when it has been formed
pub record Formed : Type 0 where
  pub value : ℕ
  pub half : Bool
  pub carry : Bool

-- a + b + c; the carries are past the bits below the top four, and past all
abbrev pub sum : Width → ℕ → ℕ → Bool → Formed
sum w a b c = record {
  value = (a + b + one c) % whole w;
  half = nat_le (part w) (a % part w + b % part w + one c);
  carry = nat_le (whole w) (a + b + one c);
}

-- a - b - c, with the borrows in place of the carries
abbrev pub difference : Width → ℕ → ℕ → Bool → Formed
difference w a b c = record {
  value = (a + whole w - (b + one c)) % whole w;
  half = nat_lt (a % part w) (b % part w + one c);
  carry = nat_lt a (b + one c);
}

-- the flags with HC and CY of a value
abbrev pub carried : Formed → Flags → Flags
carried x f = record { zero = f.zero; skip = f.skip; half = x.half; l1 = f.l1; l0 = f.l0; carry = x.carry }

-- the flags with Z, HC and CY of a value, and SK
abbrev pub marked : Formed → Bool → Flags → Flags
marked x skips f = record { zero = (x.value == 0); skip = skips; half = x.half; l1 = f.l1; l0 = f.l0; carry = x.carry }
