use Rattle.std.proofs.Common.{◌≡◌}
use Rattle.lines.specs.Of.{lines_of}
use Rattle.requests.specs.Of.{requests_of}
use Rattle.requests.specs.Request.{signalled, when}
use Rattle.requests.proofs.Counts.{up_to}
use Rattle.requests.proofs.requests.Requests.signal_each.Given as goal

abbrev pub invariant-loop-line : goal.invariant-loop-line
invariant-loop-line l = requests_of l.self ≡ up_to (λ k. when (lines_of l.lines k) signalled) l.line-index (requests_of l.initial.self)
