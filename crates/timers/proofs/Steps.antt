-- A counter's steps in a row: where it stands, and how often it matched. Assumes nothing.
use Rattle.std.proofs.Common.{◌≡◌, ℕ, zero, suc, ◌+◌, ◌*◌, ◌/◌, ◌%◌, ◌<◌, ◌≤◌, Bool, true, false, cond, eqb, sym, refl, ap, ◌∙◌, add-zero, add-suc, add-mul, arith}
use lib.Arith.{digits_div, digits_mod}
use Rattle.std.proofs.lemmas.Bool.{eqb-true, eqb-false}
use Rattle.std.proofs.lemmas.Bool.Decides.{nat_tests}
use Rattle.timers.specs.Timing.{stepped}
use Rattle.timers.specs.Counting.{counted, matches}

module _ (byte c : ℕ) where
  -- m steps after others
  counted_after : (k m : ℕ) → counted byte c (k + m) ≡ counted byte (counted byte c k) m
  unfolding counted
  counted_after k zero = ap (counted byte c) (add-zero k)
  counted_after k (suc m) = ap (counted byte c) (add-suc k m)
      ∙ ap (λ x. cond (eqb (stepped x) byte) 0 (stepped x)) (counted_after k m)

  matches_after : (k m : ℕ) → matches byte c (k + m) ≡ matches byte c k + matches byte (counted byte c k) m
  unfolding counted matches
  matches_after k zero = ap (matches byte c) (add-zero k) ∙ sym (add-zero (matches byte c k))
  matches_after k (suc m) =
      let rest = matches_after k m in
      let same = counted_after k m in
      ap (matches byte c) (add-suc k m)
      ∙ ap (λ x. cond (eqb (stepped x) byte) (matches byte c (k + m) + 1) (matches byte c (k + m))) same
      ∙ grind (arith, nat_tests)

-- `left` steps go by before the one that matches
module _ (byte c left : ℕ) (small : left < 256) (there : (c + left + 1) % 256 ≡ byte) (low : c < 256) where
  pub before : (k : ℕ) → k ≤ left → (counted byte c k ≡ (c + k) % 256) × (matches byte c k ≡ 0)
  unfolding counted matches
  before zero h = (omega arith, refl)
  before (suc k) h =
      let rest = before k (omega arith) in
      let other : stepped (counted byte c k) ≡ byte → ⊥ = λ e. omega (arith, rest.0) in
      let next : stepped (counted byte c k) ≡ (c + suc k) % 256 = omega (arith, rest.0) in
      grind (arith, nat_tests)

  pub at_match : (counted byte c (suc left) ≡ 0) × (matches byte c (suc left) ≡ 1)
  unfolding counted matches
  at_match =
      let rest = before left (omega arith) in
      let same : stepped (counted byte c left) ≡ byte = omega (arith, rest.0) in
      grind (arith, nat_tests)

-- from 0 every `period`th step matches
module _ (byte period : ℕ) (some : 0 < period) (most : period ≤ 256) (is : period % 256 ≡ byte) where
  one_round : (b : Bool) (q x m : ℕ) → q * period + x ≡ m → (b ≡ true → x + 1 ≡ period) → (b ≡ false → (stepped x ≡ x + 1) × (x + 1 < period))
      → (cond b (q + 1) q * period + cond b 0 (stepped x) ≡ suc m) × (cond b 0 (stepped x) < period)
  one_round true q x m h last more = let e = last refl in (omega (arith, add-mul q 1 period), some)
  one_round false q x m h last more = let e = more refl in (omega arith, omega arith)

  rounds : (m : ℕ) → (matches byte 0 m * period + counted byte 0 m ≡ m) × (counted byte 0 m < period)
  unfolding counted matches
  rounds zero = (omega arith, some)
  rounds (suc m) =
      let x : ℕ = counted byte 0 m in
      let rest = rounds m in
      one_round (eqb (stepped x) byte) (matches byte 0 m) x m rest.0
      (λ h. let e = eqb-true (stepped x) byte h in omega arith)
      (λ h. let e = eqb-false (stepped x) byte h in (omega arith, omega arith))

  pub counted_rounds : (m : ℕ) → counted byte 0 m ≡ m % period
  counted_rounds m = sym (ap (λ x. x % period) (sym (rounds m).0) ∙ digits_mod (matches byte 0 m) (rounds m).1)

  pub matches_rounds : (m : ℕ) → matches byte 0 m ≡ m / period
  matches_rounds m = sym (ap (λ x. x / period) (sym (rounds m).0) ∙ digits_div (matches byte 0 m) (rounds m).1)

-- a match, and the steps after it
module _ (byte c left period : ℕ) (small : left < 256) (there : (c + left + 1) % 256 ≡ byte) (low : c < 256)
    (some : 0 < period) (most : period ≤ 256) (is : period % 256 ≡ byte) where
  pub counted_past : (m : ℕ) → counted byte c (suc left + m) ≡ m % period
  counted_past m = counted_after byte c (suc left) m ∙ ap (λ x. counted byte x m) (at_match byte c left small there low).0 ∙ counted_rounds byte period some most is m

  pub matches_past : (m : ℕ) → matches byte c (suc left + m) ≡ m / period + 1
  matches_past m =
      let first = at_match byte c left small there low in
      let rest = ap (λ x. matches byte x m) first.0 ∙ matches_rounds byte period some most is m in
      omega (arith, matches_after byte c (suc left) m, first.1)
