use Rattle.std.proofs.Common.{◌≡◌, ◌++◌, length}
use Rattle.std.specs.Vec.Iter.{into_iter_items, into_iter_len}
use Rattle.terminal_runner.specs.Seats.{Joined}
use Rattle.terminal_runner.proofs.runs.join_all.Given as goal

abbrev pub invariant-loop-back : goal.invariant-loop-back
invariant-loop-back g l = (l.yielded ++ into_iter_items l.back-iterator ≡ into_iter_items l.initial.back-iterator)
    × (into_iter_len l.back-iterator ≡ length (into_iter_items l.back-iterator))
    × Joined l.yielded l.initial.spare l.spare l.keyboards.items l.screens.items
