use Rattle.std.proofs.Common.{◌≡◌, ◌<◌, length, ◌∙◌, arith}
use Rattle.lines.specs.Numbers.{number_of}
use Rattle.requests.specs.Of.{requests_of}
use Rattle.requests.proofs.Places.{inserted, removed, placed, placed_whole}
use Rattle.requests.proofs.requests.Requests.put.Goals as goal

pub invariant_of-self : goal.invariant_of-self
invariant_of-self c =
    let same : c.from.result ≡ number_of c.args.line = c.from.ensures ∙ c.number.ensures.value in
    let inside : c.from.result < length c.args.self.now.tallies = omega arith in
    let marked = inserted _ _ _ _ c.insert.ensures c.if-waiting.true in
    record { whole = placed_whole _ _ _ _ _ c.args.tally _ same inside marked c.args.self.now.whole c.requires }

pub invariant_of-self-else-waiting : goal.invariant_of-self-else-waiting
invariant_of-self-else-waiting c =
    let same : c.from.result ≡ number_of c.args.line = c.from.ensures ∙ c.number.ensures.value in
    let inside : c.from.result < length c.args.self.now.tallies = omega arith in
    let marked = removed _ _ _ _ c.remove.ensures c.if-waiting.false in
    record { whole = placed_whole _ _ _ _ _ c.args.tally _ same inside marked c.args.self.now.whole c.requires }

pub returns-then-waiting : goal.returns-then-waiting
unfolding requests_of
returns-then-waiting c =
    let same : c.from.result ≡ number_of c.args.line = c.from.ensures ∙ c.number.ensures.value in
    let inside : c.from.result < length c.args.self.now.tallies = omega arith in
    placed _ _ _ _ _ c.args.tally _ same inside (inserted _ _ _ _ c.insert.ensures c.if-waiting.true)

pub returns-else-waiting : goal.returns-else-waiting
unfolding requests_of
returns-else-waiting c =
    let same : c.from.result ≡ number_of c.args.line = c.from.ensures ∙ c.number.ensures.value in
    let inside : c.from.result < length c.args.self.now.tallies = omega arith in
    placed _ _ _ _ _ c.args.tally _ same inside (removed _ _ _ _ c.remove.ensures c.if-waiting.false)
