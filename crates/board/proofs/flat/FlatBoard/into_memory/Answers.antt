use Rattle.std.proofs.Common.{vec_items}
use Rattle.board.proofs.Memory.{memory_back}
use Rattle.board.proofs.flat.FlatBoard.into_memory.Goals as goal

pub returns : goal.returns
returns c = memory_back (vec_items c.args.self.memory) c.args.self.fixed_below
