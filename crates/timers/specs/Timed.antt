-- The timers before a bench panel.
use Rattle.std.specs.Prelude.{ℕ, Bool}
use Rattle.panel.specs.Bench.{Bench, bench_rules, bench_start}
use Rattle.panel.specs.Rules.{Rules}
use Rattle.panel.specs.Stacked.{Stacked, stacked, before}
use Rattle.timers.specs.Timing.{Timing, timing_owns, timing_rules, timing_start}

-- the rules of both
abbrev pub timed_rules : Rules (Stacked Timing Bench)
timed_rules = before timing_owns timing_rules bench_rules

-- both fresh, with a schedule
abbrev pub timed_start : (ℕ → ℕ → Bool) → Stacked Timing Bench
timed_start due = stacked timing_start (bench_start due)
