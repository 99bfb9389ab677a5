use Rattle.proved_cases.proofs.Computed.{worked}
use Rattle.proved_cases.proofs.worked.proved.Goals as goal

pub returns : goal.returns
returns g c = worked g.P.Panel.rules
