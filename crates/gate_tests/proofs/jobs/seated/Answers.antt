use Rattle.std.proofs.Common.{sym, subst}
use Rattle.terminal_runner.specs.Keyboards.{taken_of}
use Rattle.terminal_runner.specs.Runs.{AreUnused}
use Rattle.terminal_runner.proofs.Seated.{unused_push}
use Rattle.gate_tests.proofs.jobs.seated.Goals as goal

pub loop-body-preserved : goal.loop-body-preserved
loop-body-preserved g c =
    subst (λ jobs. AreUnused taken_of jobs) (sym c.in_ok-push.ensures.items) (unused_push taken_of c.loop-body.jobs.items _ c.loop-body.invariant c.new-in-loop-body.ensures.none)
