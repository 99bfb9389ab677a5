use Rattle.std.proofs.Common.{vec_items}
use Rattle.panel.specs.Schedule.{scheduled}
use Rattle.panel.proofs.Clock.{zeroes}
use Rattle.panel.proofs.bench.methods.BenchPanelPanel.reset.Goals as goal

pub returns : goal.returns
returns c = λ i. record { bytes = λ k. zeroes 64 k i; clock = c.args.self.now.schedule.clock; due = scheduled (vec_items c.args.self.now.schedule.records) }
