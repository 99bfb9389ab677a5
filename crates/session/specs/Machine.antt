-- The panel of a session: timers before a bench panel with nothing due.
use Rattle.std.specs.Prelude.{[]}
use Rattle.panel.specs.Bench.{Bench}
use Rattle.panel.specs.Schedule.{scheduled}
use Rattle.panel.specs.Stacked.{Stacked}
use Rattle.timers.specs.Timed.{timed_start}
use Rattle.timers.specs.Timing.{Timing}

abbrev pub quiet : Stacked Timing Bench
quiet = timed_start (scheduled [])
