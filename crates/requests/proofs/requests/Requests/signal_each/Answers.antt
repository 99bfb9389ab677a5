use Rattle.std.proofs.Common.{◌≡◌, sym, ap, ◌∙◌, arith}
use Rattle.lines.specs.Of.{lines_of}
use Rattle.lines.proofs.All.{numbered}
use Rattle.lines.proofs.Digits.{past_last}
use Rattle.requests.specs.Of.{requests_of}
use Rattle.requests.specs.Request.{signalled, when}
use Rattle.requests.proofs.Counts.{up_to, none_yet, taken, skipped, all_done}
use Rattle.requests.proofs.requests.Requests.signal_each.Goals as goal
use Rattle.requests.proofs.requests.Requests.signal_each.Goals.{then-has, else-has}

pub loop-line-init : goal.loop-line-init
loop-line-init c = none_yet (λ k. when (lines_of c.args.lines k) signalled) (requests_of c.args.self.now)

pub loop-line-preserved : goal.loop-line-preserved
loop-line-preserved c =
    let here = numbered _ c.loop-line.line-index (omega arith) in
    elim c.if-has.branch [
      | then-has w ↦ taken (lines_of c.args.lines) signalled _ _ _ _ _ here c.loop-line.invariant (ap requests_of w.self-is ∙ w.signal.ensures) (sym c.has.ensures ∙ w.if-has.true)
      | else-has w ↦ skipped (lines_of c.args.lines) signalled _ _ _ _ _ here c.loop-line.invariant (ap requests_of w.self-is) (sym c.has.ensures ∙ w.if-has.false)
    ]

pub returns : goal.returns
returns c =
    let rising = lines_of c.args.lines in
    let rs = requests_of c.args.self.now in
    let end : c.loop-line.line-index ≡ 11 = omega arith in
    c.loop-line.invariant ∙ ap (λ n. up_to (λ k. when (rising k) signalled) n rs) end
    ∙ all_done (λ k. when (rising k) signalled) rs 11 (λ k h. ap (λ b. when b signalled (rs k)) (past_last c.args.lines k h))
