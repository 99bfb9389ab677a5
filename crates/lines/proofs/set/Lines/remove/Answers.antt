use Rattle.std.proofs.Common.{ap, ◌∙◌}
use Rattle.lines.specs.Of.{lines_of}
use Rattle.lines.specs.Sets.{without}
use Rattle.lines.proofs.Digits.{out_lt, removed}
use Rattle.lines.proofs.set.Lines.remove.Goals as goal

pub invariant_of-self : goal.invariant_of-self
invariant_of-self c = record { ok = out_lt c.args.self.now.bits c.args.self.now.ok _ }

pub returns : goal.returns
unfolding lines_of
returns c =
    removed c.args.self.now.bits c.args.self.now.ok c.number.result c.number.ensures.bound
    ∙ ap (without (lines_of c.args.self.now)) c.number.ensures.value
