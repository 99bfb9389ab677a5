-- Several states of the timers at once, by arithmetic. The proofs show this equal to the one-state rule.
use Rattle.std.specs.Prelude.{ℕ, zero, suc, ◌+◌, ◌/◌, ◌%◌, Bool, cond, ◌&&◌, ◌||◌, ◌==◌, nat_lt}
use Rattle.lines.specs.Sets.{none}
use Rattle.timers.specs.Timing.{Count, Timing, stops0, stops1, choice0, choice1, stepped}

-- the counter after k steps, and how many of them matched
unfoldable pub counted : ℕ → ℕ → ℕ → ℕ
counted byte c zero = c
counted byte c (suc k) = cond (stepped (counted byte c k) == byte) 0 (stepped (counted byte c k))

unfoldable pub matches : ℕ → ℕ → ℕ → ℕ
matches byte c zero = 0
matches byte c (suc k) = cond (stepped (counted byte c k) == byte) (matches byte c k + 1) (matches byte c k)

-- how often the counter of a running timer steps in n states, where timer 0 matched `carried` times
abbrev pub steps_in : ℕ → ℕ → ℕ → ℕ → ℕ
steps_in choice carried p n = cond (choice == 0) ((p % 4 + n) / 4) (cond (choice == 1) ((p % 128 + n) / 128) (cond (choice == 3) carried 0))

-- a timer after n states in which its counter, if it runs, makes k steps
abbrev pub ran : Bool → ℕ → ℕ → ℕ → Count → Count
ran stopped k n byte t = cond stopped t (record { prescaler = (t.prescaler + n) % 128; counter = counted byte t.counter k })

-- how often it matches
abbrev pub matched : Bool → ℕ → ℕ → Count → ℕ
matched stopped k byte t = cond stopped 0 (matches byte t.counter k)

-- each timer's steps and matches in n states
abbrev pub steps0 : Timing → ℕ → ℕ
steps0 s n = steps_in (choice0 s.tmm) 0 s.timer0.prescaler n

abbrev pub matches0 : Timing → ℕ → ℕ
matches0 s n = matched (stops0 s.tmm) (steps0 s n) s.tm0 s.timer0

abbrev pub steps1 : Timing → ℕ → ℕ
steps1 s n = steps_in (choice1 s.tmm) (matches0 s n) s.timer1.prescaler n

abbrev pub matches1 : Timing → ℕ → ℕ
matches1 s n = matched (stops1 s.tmm) (steps1 s n) s.tm1 s.timer1

-- both timers after n states, and the lines that rose
abbrev pub timing_after : Timing → ℕ → Timing
timing_after s n = record {
  tmm = s.tmm;
  tm0 = s.tm0;
  tm1 = s.tm1;
  timer0 = ran (stops0 s.tmm) (steps0 s n) n s.tm0 s.timer0;
  timer1 = ran (stops1 s.tmm) (steps1 s n) n s.tm1 s.timer1;
}

-- a set of lines, with one more where its timer matched
abbrev pub raised_by : ℕ → ℕ → (ℕ → Bool) → ℕ → Bool
raised_by line matches a k = a k || (k == line && nat_lt 0 matches)

abbrev pub timing_rose : Timing → ℕ → ℕ → Bool
timing_rose s n = raised_by 2 (matches1 s n) (raised_by 1 (matches0 s n) none)
