use Rattle.gate_tests.proofs.Growth.{grew_on}
use Rattle.gate_tests.proofs.lost_runs.ClerkJobBody.run.Goals as goal

pub returns : goal.returns
returns g c =
    let entered = c.in_ok-enter.ensures in
    let asked = c.in_ok-ask_for_block.ensures in
    let both = grew_on g.P.Port.who g.P.Port.log entered.0 asked.0 entered.1 asked.1 in
    (both.0, both.1, tt)
