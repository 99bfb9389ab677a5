-- What steps a counter, by its name, and a timer that goes at a pace or is stopped.
use Rattle.std.specs.Prelude.{ℕ, ◌+◌, ◌/◌, ◌%◌, Bool, false, cond, Some, None, Option, ◌==◌}
use Rattle.timers.specs.declared.pace.Pace.{Pace}
use Rattle.timers.specs.declared.pace.Pace.TheVariants.{Every4, Every128, Never, Carried}
use Rattle.timers.specs.Timing.{Count}
use Rattle.timers.specs.Counting.{ran, matched}

-- the pace that the mode's two bits choose
abbrev pub pace_at : ℕ → Pace
pace_at choice = cond (choice == 0) Every4 (cond (choice == 1) Every128 (cond (choice == 3) Carried Never))

-- none for a timer that is stopped
abbrev pub pace_of : Bool → ℕ → Option Pace
pace_of stopped choice = cond stopped None (Some (pace_at choice))

-- how often a counter steps in n states, where timer 0 matched `carried` times
abbrev pub steps_at : Pace → ℕ → ℕ → ℕ → ℕ
steps_at Every4 carried p n = (p % 4 + n) / 4
steps_at Every128 carried p n = (p % 128 + n) / 128
steps_at Never carried p n = 0
steps_at Carried carried p n = carried

-- a timer after n states, and how often it matches in them
abbrev pub ran_at : Option Pace → ℕ → ℕ → ℕ → Count → Count
ran_at None carried n byte t = t
ran_at (Some pace) carried n byte t = ran false (steps_at pace carried t.prescaler n) n byte t

abbrev pub matched_at : Option Pace → ℕ → ℕ → ℕ → Count → ℕ
matched_at None carried n byte t = 0
matched_at (Some pace) carried n byte t = matched false (steps_at pace carried t.prescaler n) byte t
