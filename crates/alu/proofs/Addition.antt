-- Decimal adjust after an addition is decimal addition. Assumes nothing.
use Rattle.std.proofs.Common.{◌≡◌, ℕ, ◌+◌, ◌*◌, ◌/◌, ◌%◌, ◌≤◌, leb, arith}
use Rattle.std.proofs.lemmas.Bool.Decides.{nat_tests}
use Rattle.registers.specs.Psw.{one}
use Rattle.alu.specs.Decimal.{correction, corrected, Totals, DecimalAddition}

-- a sum of high digits i and of low digits j, the carry among them
adjusts : (i j sum lows total : ℕ) → i ≤ 18 → j ≤ 19 → sum ≡ 16 * i + j → lows ≡ j → total ≡ 10 * i + j
    → Totals total (corrected (sum % 256) (correction (sum % 256) (leb 16 lows) (leb 256 sum)))
adjusts i j sum lows total hi hj s l t = (grind (arith, nat_tests), grind (arith, nat_tests))

pub decimal_addition : DecimalAddition
unfolding DecimalAddition
decimal_addition m n f p q = (
  adjusts (m / 10 + n / 10) (m % 10 + n % 10) _ _ _ (omega arith) (omega arith) (omega arith) (omega arith) (omega arith),
  adjusts (m / 10 + n / 10) (m % 10 + n % 10 + one f.carry) _ _ _ (omega arith) (grind (arith, nat_tests)) (omega arith) (omega arith) (omega arith),
)
