use Rattle.std.proofs.Common.{◌≡◌, ◌++◌, length, map}
use Rattle.std.specs.Vec.Iter.{into_iter_items, into_iter_len}
use Rattle.report_texts.specs.Names.{names_of}
use Rattle.terminal_runner.specs.Runs.{AreUnused}
use Rattle.terminal_runner.specs.Keyboards.{taken_of}
use Rattle.time_sharing.specs.Sessions.{job_lines, typed_keys}
use Rattle.time_sharing.proofs.runs.parted.Given as goal

abbrev pub invariant-loop-terminal : goal.invariant-loop-terminal
invariant-loop-terminal l = (l.yielded ++ into_iter_items l.terminal-iterator ≡ into_iter_items l.initial.terminal-iterator)
    × (into_iter_len l.terminal-iterator ≡ length (into_iter_items l.terminal-iterator))
    × (map job_lines l.jobs.items ≡ map typed_keys l.yielded)
    × (names_of l.named.items ≡ names_of l.yielded)
    × AreUnused taken_of l.jobs.items
