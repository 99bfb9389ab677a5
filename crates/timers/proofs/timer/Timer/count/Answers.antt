use Rattle.std.proofs.Common.{◌≡◌, ℕ, suc, ◌+◌, ◌-◌, ◌%◌, sym, ap, ◌∙◌, arith}
use Rattle.timers.specs.Counting.{counted, matches}
use Rattle.timers.proofs.Steps.{before, counted_past, matches_past}
use Rattle.timers.proofs.timer.Timer.count.Goals as goal

pub returns-then-steps-left-clause-counter : goal.returns-then-steps-left-clause-counter
returns-then-steps-left-clause-counter c =
    let t = c.args.self.now in
    let left : ℕ = (t.tm + 511 - t.counter) % 256 in
    sym (before t.tm t.counter left (omega arith) (omega arith) (omega arith) c.args.steps (omega arith)).0

pub returns-then-steps-left-clause-matched : goal.returns-then-steps-left-clause-matched
returns-then-steps-left-clause-matched c =
    let t = c.args.self.now in
    let left : ℕ = (t.tm + 511 - t.counter) % 256 in
    sym (before t.tm t.counter left (omega arith) (omega arith) (omega arith) c.args.steps (omega arith)).1

pub returns-clause-counter : goal.returns-clause-counter
returns-clause-counter c =
    let t = c.args.self.now in
    let left : ℕ = (t.tm + 511 - t.counter) % 256 in
    let all : suc left + c.from-past.result ≡ c.args.steps = omega arith in
    sym (ap (counted t.tm t.counter) (sym all)
    ∙ counted_past t.tm t.counter left (c.from-period.result + 1) (omega arith) (omega arith) (omega arith) (omega arith) (omega arith) (omega arith) c.from-past.result)

pub returns-clause-matched : goal.returns-clause-matched
returns-clause-matched c =
    let t = c.args.self.now in
    let left : ℕ = (t.tm + 511 - t.counter) % 256 in
    let all : suc left + c.from-past.result ≡ c.args.steps = omega arith in
    sym (ap (matches t.tm t.counter) (sym all)
    ∙ matches_past t.tm t.counter left (c.from-period.result + 1) (omega arith) (omega arith) (omega arith) (omega arith) (omega arith) (omega arith) c.from-past.result)
