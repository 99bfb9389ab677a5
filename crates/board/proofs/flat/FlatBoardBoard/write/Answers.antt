use Rattle.std.proofs.Common.{◌<◌, arith, refl}
use Rattle.std.proofs.lemmas.List.{length-set, drop-set-lt}
use Rattle.board.proofs.flat.FlatBoardBoard.write.Goals as goal

pub returns-in-Some-clause-keeps : goal.returns-in-Some-clause-keeps
returns-in-Some-clause-keeps c =
    let within : c.from-2.result < 65536 = omega arith in
    rw (length-set, drop-set-lt) refl
