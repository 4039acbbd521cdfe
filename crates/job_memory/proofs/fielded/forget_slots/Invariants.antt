use Rattle.std.proofs.Common.{◌≡◌, ◌++◌, take, drop}
use Rattle.std.specs.Prelude.{map}
use Rattle.std.specs.Option.{option_map}
use Rattle.job_memory.specs.Contents.{forgotten}
use Rattle.job_memory.proofs.fielded.forget_slots.Given as goal

abbrev pub invariant-loop-slot : goal.invariant-loop-slot
invariant-loop-slot l = l.slots ≡ map (option_map (forgotten l.closed)) (take l.slot-index l.initial.slots) ++ drop l.slot-index l.initial.slots
