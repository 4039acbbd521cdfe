use Rattle.std.proofs.Common.{◌+◌, ◌-◌, vec_len}
use Rattle.job_memory.specs.Slots.{SameRows}
use Rattle.job_memory.proofs.slots.reach_row.Given as goal

abbrev pub invariant-loop-alloc : goal.invariant-loop-alloc
invariant-loop-alloc g l = SameRows l.initial.rows.items l.rows.items

abbrev pub decreases-loop-alloc : goal.decreases-loop-alloc
decreases-loop-alloc g l = l.letter + 1 - vec_len l.rows
