use Rattle.std.proofs.Common.{get_or, replicate, ap, ◌∙◌}
use Rattle.requests.specs.Of.{requests_of}
use Rattle.requests.specs.Request.{quiet, tally_of, request_of}
use Rattle.requests.proofs.Places.{alike}
use Rattle.requests.proofs.requests.Requests.new.Goals as goal

pub returns : goal.returns
unfolding requests_of
returns c =
    λ i k. request_of (c.empty.ensures i k) ((ap (λ t. get_or (replicate 11 t) k (tally_of quiet)) c.no_signal.ensures ∙ alike 11 k (tally_of quiet)) i)
