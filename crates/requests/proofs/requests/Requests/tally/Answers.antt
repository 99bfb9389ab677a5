use Rattle.std.proofs.Common.{◌≡◌, get_or, ap, ◌∙◌}
use Rattle.lines.specs.Numbers.{number_of}
use Rattle.requests.specs.Of.{requests_of}
use Rattle.requests.specs.Request.{quiet, tally_of}
use Rattle.requests.proofs.Places.{read_whole}
use Rattle.requests.proofs.requests.Requests.tally.Goals as goal

pub returns : goal.returns
unfolding requests_of
returns c =
    let same : c.from.result ≡ number_of c.args.line = c.from.ensures ∙ c.number.ensures.value in
    record {
      value = ap (λ k. get_or c.args.self.now.tallies k (tally_of quiet)) same;
      whole = read_whole c.args.self.now.marks c.args.self.now.tallies _ _ same (c.args.self.now.whole _);
    }
