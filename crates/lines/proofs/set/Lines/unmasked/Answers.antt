use Rattle.lines.proofs.Digits.{out_lt, unmask}
use Rattle.lines.specs.Of.{lines_of}
use Rattle.lines.proofs.set.Lines.unmasked.Goals as goal

pub invariant_of-result : goal.invariant_of-result
invariant_of-result c = record { ok = out_lt c.args.self.bits c.args.self.ok _ }

pub returns : goal.returns
unfolding lines_of
returns c = unmask c.args.self.bits c.args.masks
