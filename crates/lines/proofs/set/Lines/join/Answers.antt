use lib.Bits.{or_lt}
use Rattle.lines.proofs.Digits.{bit_of_or}
use Rattle.lines.specs.Of.{lines_of}
use Rattle.lines.proofs.set.Lines.join.Goals as goal

pub invariant_of-self : goal.invariant_of-self
invariant_of-self c = record { ok = or_lt 11 c.args.self.now.bits c.args.other.bits c.args.self.now.ok c.args.other.ok }

pub returns : goal.returns
unfolding lines_of
returns c = λ i k. bit_of_or c.args.self.now.bits c.args.other.bits k i
