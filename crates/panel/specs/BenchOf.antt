-- The standing of a bench panel.
use Rattle.std.specs.Prelude.{vec_items, slice_index}
use Rattle.panel.specs.declared.bench.BenchPanel.{BenchPanel}
use Rattle.panel.specs.Bench.{Bench}
use Rattle.panel.specs.Schedule.{scheduled}

-- the order in which the code keeps the records is no part of it
abbrev pub bench_of : BenchPanel → Bench
bench_of p = record { bytes = λ code. slice_index p.bytes code; clock = p.schedule.clock; due = scheduled (vec_items p.schedule.records) }
