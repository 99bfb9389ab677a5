use Rattle.cpu.proofs.Outcomes.{if_stopped, if_counted}
use Rattle.cpu.proofs.steps.step.Goals as goal

pub returns-in_err-states-clause-becomes : goal.returns-in_err-states-clause-becomes
returns-in_err-states-clause-becomes g c = if_stopped g.B.Board g.P.Panel c.in_err-states.ensures

pub returns-clause-becomes : goal.returns-clause-becomes
returns-clause-becomes g c = if_counted g.B.Board g.P.Panel c.in_ok-states.ensures c.elapse.ensures
