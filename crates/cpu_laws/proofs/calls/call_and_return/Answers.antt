use Rattle.machine.specs.Of.{model_of}
use Rattle.machine.proofs.Effects.{then, between}
use Rattle.cpu_laws.specs.Laws.{CallReturns}
use Rattle.cpu_laws.proofs.CallReturn.{call_returns}
use Rattle.cpu_laws.proofs.calls.call_and_return.Goals as goal

pub returns-clause-returns : goal.returns-clause-returns
returns-clause-returns g c =
    let run = then g.B.Board g.P.Panel c.execute.ensures c.execute-2.ensures in
    let m = model_of g.B.Board g.P.Panel c.args.machine.now in
    between g.B.Board g.P.Panel (CallReturns c.args.call) run (call_returns g.P.Panel.rules c.args.call m c.measure.ensures)
