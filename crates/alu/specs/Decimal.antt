-- Decimal adjust: what is added to a sum of two packed decimal bytes, so that it is packed decimal again.
use Rattle.std.specs.Prelude.{◌≡◌, ℕ, ◌+◌, ◌/◌, ◌%◌, ◌<◌, Bool, false, cond, ◌||◌, nat_le, nat_lt}
use Rattle.registers.specs.declared.flags.Flags.{Flags}
use Rattle.registers.specs.Psw.{one}
use Rattle.alu.specs.declared.operation.Operation.{Operation}
use Rattle.alu.specs.declared.operation.Operation.TheVariants.{Add, AddWithCarry}
use Rattle.alu.specs.declared.width.Width.TheVariants.{Byte}
use Rattle.alu.specs.Operations.{operated, flagged}
use Rattle.alu.specs.Sums.{Formed, sum}
use Rattle.alu.specs.Digits.{high, low, digits}

-- 60H for a high digit above its limit, or with CY set
abbrev pub high_correction : ℕ → ℕ → Bool → ℕ
high_correction limit digit carry = cond (carry || nat_lt limit digit) 96 0

-- 06H with HC set, or for a low digit above 9, whose carry lowers the high digit's limit
abbrev pub correction : ℕ → Bool → Bool → ℕ
correction a half carry =
    cond half (6 + high_correction 9 (high a) carry)
    (cond (nat_lt 9 (low a)) (6 + high_correction 8 (high a) carry)
    (high_correction 9 (high a) carry))

-- HC is the carry past bit 3 as the correction is added; CY is set where 60H or 66H is
abbrev pub corrected : ℕ → ℕ → Formed
corrected a by = record { value = (sum Byte a by false).value; half = (sum Byte a by false).half; carry = nat_le 96 by }

abbrev pub adjusted : ℕ → Flags → Formed
adjusted a f = corrected a (correction a f.half f.carry)

-- the packed decimal byte of a number below 100
abbrev pub packed : ℕ → ℕ
packed n = digits (n / 10) (n % 10)

-- an operation on two bytes, and then the adjust
abbrev pub operated_adjusted : Operation → ℕ → ℕ → Flags → Formed
operated_adjusted op a b f = adjusted (operated op Byte a b f).value (flagged op (operated op Byte a b f) f)

-- the packed decimal byte of a total, and the decimal carry
abbrev pub Totals : ℕ → Formed → Type 0
Totals total x = (x.value ≡ packed (total % 100)) × (x.carry ≡ nat_le 100 total)

-- after an addition of packed decimal bytes, with CY or without, the adjust makes it decimal addition
unfoldable pub DecimalAddition : Type 0
DecimalAddition = (m n : ℕ) (f : Flags) → m < 100 → n < 100
    → Totals (m + n) (operated_adjusted Add (packed m) (packed n) f)
    × Totals (m + n + one f.carry) (operated_adjusted AddWithCarry (packed m) (packed n) f)
