use Rattle.std.proofs.Common.{◌≡◌, ◌++◌, length}
use Rattle.std.specs.Vec.Iter.{into_iter_items, into_iter_len}
use Rattle.terminal_runner.specs.Runs.{leaves}
use Rattle.history_replay.specs.Disputes.{each_does}
use Rattle.history_replay.specs.Lists.{FirstRan}
use Rattle.history_replay.proofs.jobs.run_all.Given as goal

-- the jobs so far did their parts
abbrev pub invariant-loop-job : goal.invariant-loop-job
invariant-loop-job g l = (l.yielded ++ into_iter_items l.job-iterator ≡ into_iter_items l.initial.job-iterator)
    × (into_iter_len l.job-iterator ≡ length (into_iter_items l.job-iterator))
    × FirstRan (each_does (leaves g.K.Keyboard.which g.K.Keyboard.keys g.B.JobBody.does) (into_iter_items l.initial.job-iterator)) (length l.yielded) l.history l.screens.items
