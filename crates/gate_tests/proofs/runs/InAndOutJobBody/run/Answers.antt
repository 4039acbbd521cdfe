use Rattle.gate_tests.proofs.Growth.{asked_twice}
use Rattle.gate_tests.proofs.runs.InAndOutJobBody.run.Goals as goal

pub returns : goal.returns
returns g c = asked_twice g.P.Port.who g.P.Port.log _ _ c.in_ok-ask.ensures.ok c.in_ok-ask-2.ensures.ok
