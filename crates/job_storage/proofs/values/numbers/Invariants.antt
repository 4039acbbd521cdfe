use Rattle.std.proofs.Common.{◌≡◌, map, take}
use Rattle.program_model.specs.Job.{number}
use Rattle.job_storage.proofs.values.numbers.Given as goal

abbrev pub invariant-loop-value : goal.invariant-loop-value
invariant-loop-value l = l.numbers.items ≡ map number (take l.value-index l.values)
