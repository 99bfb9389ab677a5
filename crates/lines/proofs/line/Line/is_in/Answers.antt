use Rattle.std.proofs.Common.{ap}
use Rattle.lines.specs.Sets.{bit}
use Rattle.lines.proofs.line.Line.is_in.Goals as goal

pub returns : goal.returns
unfolding bit
returns c = ap (bit c.args.bits) c.number.ensures.value
