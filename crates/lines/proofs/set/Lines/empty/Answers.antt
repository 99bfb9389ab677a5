use Rattle.lines.proofs.Digits.{bit_zero}
use Rattle.lines.specs.Of.{lines_of}
use Rattle.lines.proofs.set.Lines.empty.Goals as goal

pub returns : goal.returns
unfolding lines_of
returns c = λ i k. bit_zero k i
