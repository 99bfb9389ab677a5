-- A timer that goes at the pace of its mode's bits. Assumes nothing.
use Rattle.std.proofs.Common.{◌≡◌, ℕ, ◌+◌, ◌/◌, ◌%◌, Bool, true, false, cond, eqb, refl, ap, arith}
use Rattle.timers.specs.declared.pace.Pace.TheVariants.{Every4, Every128, Never, Carried}
use Rattle.timers.specs.Counting.{ran, matched, steps_in}
use Rattle.timers.specs.Paces.{pace_at, pace_of, steps_at, ran_at, matched_at}
use Rattle.timers.specs.Timing.{Count, stops0, stops1, choice0, choice1}

module _ (choice carried n : ℕ) where
  steps_paced : (p : ℕ) → steps_at (pace_at choice) carried p n ≡ steps_in choice carried p n
  steps_paced p = by_tests (eqb choice 0) (eqb choice 1) (eqb choice 3)
    where
      by_tests : (a b d : Bool) → steps_at (cond a Every4 (cond b Every128 (cond d Carried Never))) carried p n
          ≡ cond a ((p % 4 + n) / 4) (cond b ((p % 128 + n) / 128) (cond d carried 0))
      by_tests true b d = refl
      by_tests false true d = refl
      by_tests false false true = refl
      by_tests false false false = refl

  pub ran_paced : (stopped : Bool) (byte : ℕ) (t : Count) → ran_at (pace_of stopped choice) carried n byte t ≡ ran stopped (steps_in choice carried t.prescaler n) n byte t
  ran_paced true byte t = refl
  ran_paced false byte t = ap (λ k. ran false k n byte t) (steps_paced t.prescaler)

  pub matched_paced : (stopped : Bool) (byte : ℕ) (t : Count) → matched_at (pace_of stopped choice) carried n byte t ≡ matched stopped (steps_in choice carried t.prescaler n) byte t
  matched_paced true byte t = refl
  matched_paced false byte t = ap (λ k. matched false k byte t) (steps_paced t.prescaler)

-- timer 1's bits stand three above timer 0's
pub pace_of_1 : (tmm : ℕ) → pace_of (stops0 (tmm / 8)) (choice0 (tmm / 8)) ≡ pace_of (stops1 tmm) (choice1 tmm)
pace_of_1 tmm =
    let stop : tmm / 8 / 16 % 2 ≡ tmm / 128 % 2 = omega arith in
    let choice : tmm / 8 / 4 % 4 ≡ tmm / 32 % 4 = omega arith in
    λ i. pace_of (eqb (stop i) 1) (choice i)
