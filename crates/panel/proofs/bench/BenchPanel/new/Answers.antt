use Rattle.panel.proofs.Clock.{zeroes}
use Rattle.panel.proofs.bench.BenchPanel.new.Goals as goal

pub returns : goal.returns
returns c = λ i. record { bytes = λ k. zeroes 64 k i; clock = c.new.ensures.clock i; due = c.new.ensures.same i }
