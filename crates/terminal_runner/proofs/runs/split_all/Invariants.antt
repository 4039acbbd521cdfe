use Rattle.std.proofs.Common.{◌≡◌, ◌++◌, length}
use Rattle.std.specs.Vec.Iter.{into_iter_items, into_iter_len}
use Rattle.monitor_gate.specs.Passes.{spare_value}
use Rattle.terminal_runner.specs.Seats.{pass_at, seated_from}
use Rattle.terminal_runner.proofs.runs.split_all.Given as goal

abbrev pub invariant-loop-job : goal.invariant-loop-job
invariant-loop-job g l = (l.yielded ++ into_iter_items l.job-iterator ≡ into_iter_items l.initial.job-iterator)
    × (into_iter_len l.job-iterator ≡ length (into_iter_items l.job-iterator))
    × (l.spare ≡ spare_value l.gate.gate (pass_at l.gate.opening (length l.yielded)))
    × (l.seated.items ≡ seated_from l.gate 0 l.yielded)
