use Rattle.std.proofs.Common.{false, sym, ap, ◌∙◌, subst, arith}
use Rattle.requests.specs.Of.{requests_of}
use Rattle.requests.specs.Request.{Request, Whole, one, cleared_by, request_of}
use Rattle.requests.proofs.Counts.{clears, clears_whole, no_clear}
use Rattle.requests.proofs.Places.{put_back, left_alone}
use Rattle.requests.proofs.requests.Requests.clear.Goals as goal

pub with_cleared-tally-requires : goal.with_cleared-tally-requires
unfolding requests_of
with_cleared-tally-requires c =
    let on = ap one (sym c.has-waiting.ensures ∙ c.if-waiting.true) in
    omega (arith, c.tally.ensures.whole)

pub put-requires : goal.put-requires
unfolding requests_of
put-requires c =
    let on = sym c.has-waiting.ensures ∙ c.if-waiting.true in
    let cleared = ap (request_of false) c.with_cleared-tally.ensures ∙ clears c.args.cause _ _ c.tally.ensures.value on in
    subst (λ (r : Request). Whole r) (sym cleared) (clears_whole c.args.cause _ (c.args.self.now.whole _))

pub returns-then-waiting : goal.returns-then-waiting
unfolding requests_of
returns-then-waiting c =
    let on = sym c.has-waiting.ensures ∙ c.if-waiting.true in
    let cleared = ap (request_of false) c.with_cleared-tally.ensures ∙ clears c.args.cause _ _ c.tally.ensures.value on in
    record { after = put_back (cleared_by c.args.cause) _ _ _ _ c.put.ensures cleared; answer = c.has-waiting.ensures }

pub returns-else-waiting : goal.returns-else-waiting
unfolding requests_of
returns-else-waiting c =
    let off = sym c.has-waiting.ensures ∙ c.if-waiting.false in
    record { after = left_alone (cleared_by c.args.cause) _ _ (no_clear c.args.cause _ off); answer = c.has-waiting.ensures }
