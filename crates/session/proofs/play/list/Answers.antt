use Rattle.std.proofs.Common.{sym, ap, ◌∙◌}
use Rattle.board.specs.Flat.{flat_memory}
use Rattle.board.proofs.Memory.{memory_back}
use Rattle.session.specs.Play.{ending}
use Rattle.session.proofs.play.list.Goals as goal

pub returns-in-Ok-clause-memory : goal.returns-in-Ok-clause-memory
returns-in-Ok-clause-memory c =
    let m = c.into_machine-board.ensures in
    c.into_memory.ensures
    ∙ (λ i. flat_memory (m.cells i) (m.rest i))
    ∙ sym (memory_back c.args.loader.memory c.args.loader.below)
    ∙ ap (λ answer. (ending c.args.loader answer).memory) (sym c.in-Ok.is)
