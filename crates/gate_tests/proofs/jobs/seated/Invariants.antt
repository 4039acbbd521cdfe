use Rattle.terminal_runner.specs.Keyboards.{taken_of}
use Rattle.terminal_runner.specs.Runs.{AreUnused}
use Rattle.gate_tests.proofs.jobs.seated.Given as goal

abbrev pub invariant-loop-body : goal.invariant-loop-body
invariant-loop-body g l = AreUnused taken_of l.jobs.items
