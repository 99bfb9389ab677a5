use Rattle.machine.specs.Of.{model_of}
use Rattle.machine.proofs.Effects.{then, between}
use Rattle.cpu_laws.specs.Laws.{PopRestores}
use Rattle.cpu_laws.proofs.PushPop.{pop_restores}
use Rattle.cpu_laws.proofs.pairs.push_and_pop.Goals as goal

pub returns-clause-restores : goal.returns-clause-restores
returns-clause-restores g c =
    let run = then g.B.Board g.P.Panel c.execute.ensures c.execute-2.ensures in
    let m = model_of g.B.Board g.P.Panel c.args.machine.now in
    between g.B.Board g.P.Panel PopRestores run (pop_restores g.P.Panel.rules c.args.pair m c.measure.ensures)
