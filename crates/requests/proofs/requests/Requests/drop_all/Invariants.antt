use Rattle.std.proofs.Common.{◌≡◌}
use Rattle.requests.specs.Of.{requests_of}
use Rattle.requests.specs.Request.{dropping}
use Rattle.requests.proofs.Counts.{up_to}
use Rattle.requests.proofs.requests.Requests.drop_all.Given as goal

abbrev pub invariant-loop-line : goal.invariant-loop-line
invariant-loop-line l = requests_of l.self ≡ up_to (λ _. dropping) l.line-index (requests_of l.initial.self)
