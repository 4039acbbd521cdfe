use Rattle.std.proofs.Common.{[], refl, sym, append-nil}
use Rattle.gate_tests.proofs.Growth.{grew_on}
use Rattle.gate_tests.proofs.lost_runs.ask_for_block.Goals as goal

pub loop-init : goal.loop-init
loop-init g c = ([], (refl, sym (append-nil (g.P.Port.log c.args.port.now))))

pub loop-preserved : goal.loop-preserved
loop-preserved g c = grew_on g.P.Port.who g.P.Port.log c.loop.invariant.0 _ c.loop.invariant.1 c.in_ok-ask.ensures.ok
