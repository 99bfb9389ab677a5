use Rattle.std.proofs.Common.{◌≡◌, ap, ◌∙◌, arith}
use Rattle.lines.proofs.Digits.{past_last}
use Rattle.lines.proofs.All.{numbered}
use Rattle.requests.specs.declared.tally.Cause.TheVariants.{Reset}
use Rattle.requests.specs.Of.{requests_of}
use Rattle.requests.specs.Request.{dropping}
use Rattle.requests.proofs.Counts.{up_to, none_yet, next, all_done, no_clear}
use Rattle.requests.proofs.requests.Requests.drop_all.Goals as goal

pub loop-line-init : goal.loop-line-init
loop-line-init c = none_yet (λ _. dropping) (requests_of c.args.self.now)

pub loop-line-preserved : goal.loop-line-preserved
loop-line-preserved c = next (λ _. dropping) _ _ _ _ _ c.clear.ensures.after (numbered _ c.loop-line.line-index (omega arith)) c.loop-line.invariant

pub returns : goal.returns
unfolding requests_of
returns c =
    let rs = requests_of c.args.self.now in
    let end : c.loop-line.line-index ≡ 11 = omega arith in
    c.loop-line.invariant ∙ ap (λ n. up_to (λ _. dropping) n rs) end
    ∙ all_done (λ _. dropping) rs 11 (λ k h. no_clear Reset (rs k) (past_last c.args.self.now.marks k h))
