use Rattle.std.proofs.Common.{ap, ◌∙◌, arith}
use Rattle.requests.specs.Of.{requests_of}
use Rattle.requests.specs.Request.{one, signalled}
use Rattle.requests.proofs.Counts.{counts}
use Rattle.requests.proofs.Places.{byte_one, put_back}
use Rattle.requests.proofs.requests.Requests.signal.Goals as goal

pub put-requires : goal.put-requires
unfolding requests_of
put-requires c =
    let waits = c.from.ensures ∙ byte_one c.has.result ∙ ap one c.has.ensures in
    omega arith

pub returns-then-tally-lt-LAST : goal.returns-then-tally-lt-LAST
unfolding requests_of
returns-then-tally-lt-LAST c =
    let waits = c.from.ensures ∙ byte_one c.has.result ∙ ap one c.has.ensures in
    put_back signalled _ _ _ _ c.put.ensures (counts _ _ _ c.tally-tally.ensures.value waits c.if-tally-lt-LAST.true)
