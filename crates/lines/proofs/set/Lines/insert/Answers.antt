use Rattle.std.proofs.Common.{ap, ◌∙◌}
use Rattle.lines.specs.Of.{lines_of}
use Rattle.lines.specs.Sets.{with_line}
use Rattle.lines.proofs.Digits.{in_lt, inserted}
use Rattle.lines.proofs.set.Lines.insert.Goals as goal

pub invariant_of-self : goal.invariant_of-self
invariant_of-self c = record { ok = in_lt c.args.self.now.bits c.args.self.now.ok c.number.result c.number.ensures.bound }

pub returns : goal.returns
unfolding lines_of
returns c =
    inserted c.args.self.now.bits c.args.self.now.ok c.number.result c.number.ensures.bound
    ∙ ap (with_line (lines_of c.args.self.now)) c.number.ensures.value
