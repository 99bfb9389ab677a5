use Rattle.machine.specs.Of.{model_of}
use Rattle.machine.proofs.Effects.{between}
use Rattle.cpu_laws.specs.Laws.{EntryReturns}
use Rattle.cpu_laws.proofs.EntryReturn.{entry_returns, if_stopped, if_counted}
use Rattle.cpu_laws.proofs.interrupts.enter_and_return.Goals as goal

pub returns-in_err-states-clause-becomes : goal.returns-in_err-states-clause-becomes
returns-in_err-states-clause-becomes g c =
    if_stopped g.B.Board g.P.Panel c.in_err-states.ensures.becomes c.in_err-states.ensures.answer

pub returns-clause-becomes : goal.returns-clause-becomes
returns-clause-becomes g c =
    if_counted g.B.Board g.P.Panel c.in_ok-states.ensures.becomes c.in_ok-states.ensures.answer c.execute.ensures

pub returns-clause-returns : goal.returns-clause-returns
returns-clause-returns g c =
    let run = if_counted g.B.Board g.P.Panel c.in_ok-states.ensures.becomes c.in_ok-states.ensures.answer c.execute.ensures in
    let m = model_of g.B.Board g.P.Panel c.args.machine.now in
    between g.B.Board g.P.Panel EntryReturns run (entry_returns g.P.Panel.rules m c.measure.ensures)
