use Rattle.gate_tests.proofs.Growth.{grew_on}
use Rattle.gate_tests.proofs.lost_runs.enter.Goals as goal

pub returns : goal.returns
returns g c = grew_on g.P.Port.who g.P.Port.log _ _ c.in_ok-ask.ensures.ok c.in_ok-ask-2.ensures.ok
