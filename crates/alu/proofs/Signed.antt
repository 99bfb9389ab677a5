-- The sign of a number's low bits shows in twice their value.
use Rattle.std.proofs.Common.{arith, suc, zero, ℕ, ◌%◌, ◌*◌, ◌-◌, ◌^◌, ◌<◌, ◌≡◌, ◌≤◌, pos, ◌-ℤ◌}
use Rattle.std.proofs.lemmas.Bool.Decides.{nat_tests}
pub use Rattle.std.proofs.lemmas.Int.{ints}
pub use Rattle.std.proofs.lemmas.Nat.{pow_pos, one_shl}
pub use Rattle.std.proofs.Math.Nat.{mod-lt, pow-suc}
use Rattle.std.proofs.Math.Pow.{pow_mono}
use Rattle.alu.specs.Offsets.{signed}

half : (n : ℕ) → 2 ^ suc n ≡ 2 * 2 ^ (suc n - 1)
half n = let e : 2 ^ suc n ≡ 2 ^ n * 2 = pow-suc 2 n in let f : suc n - 1 ≡ n = omega arith in rw f (omega arith)

pub signed_below : (n x : ℕ) → 2 * (x % 2 ^ n) < 2 ^ n → signed n x ≡ pos (x % 2 ^ n)
signed_below zero x h = grind (arith, nat_tests)
signed_below (suc n) x h = let e = half n in grind (arith, nat_tests, e)

pub signed_above : (n x : ℕ) → 2 ^ n ≤ 2 * (x % 2 ^ n) → signed n x ≡ pos (x % 2 ^ n) -ℤ pos (2 ^ n)
signed_above zero x h = grind (arith, nat_tests)
signed_above (suc n) x h = let e = half n in grind (arith, nat_tests, e)

pub narrow : (k : ℕ) → k ≤ 16 → 2 ^ k ≤ 2 ^ 16
narrow k = pow_mono

-- what the low bits come to, at most sixteen of them
pub ruleset signs = (signed_below, signed_above, narrow, one_shl, pow_pos, mod-lt, ints)
