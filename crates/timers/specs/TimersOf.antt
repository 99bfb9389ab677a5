-- The standing of the timers.
use Rattle.std.specs.Prelude.{◌%◌}
use Rattle.panel.specs.Stacked.{Stacked, stacked}
use Rattle.timers.specs.declared.timer.Timer.{Timer}
use Rattle.timers.specs.declared.pair.TimerPair.{TimerPair}
use Rattle.timers.specs.declared.front.Timers.{Timers}
use Rattle.timers.specs.Timing.{Count, Timing}

-- one timer: the code lets the prescaler run on, and its lower seven bits count
abbrev pub count_of : Timer → Count
count_of t = record { prescaler = t.prescaler % 128; counter = t.counter }

-- both timers
abbrev pub timing_of : TimerPair → Timing
timing_of p = record { tmm = p.tmm; tm0 = p.timer0.tm; tm1 = p.timer1.tm; timer0 = count_of p.timer0; timer1 = count_of p.timer1 }

-- the timers before a panel
abbrev pub timers_of : {P S : Type 0} → (P → S) → Timers P → Stacked Timing S
timers_of standing t = stacked (timing_of t.pair) (standing t.behind)
