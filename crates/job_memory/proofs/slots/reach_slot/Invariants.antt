use Rattle.std.proofs.Common.{◌+◌, ◌-◌, vec_len}
use Rattle.job_memory.specs.Slots.{SameSlots}
use Rattle.job_memory.proofs.slots.reach_slot.Given as goal

abbrev pub invariant-loop-slots : goal.invariant-loop-slots
invariant-loop-slots g l = SameSlots l.initial.slots.items l.slots.items

abbrev pub decreases-loop-slots : goal.decreases-loop-slots
decreases-loop-slots g l = l.slot + 1 - vec_len l.slots
