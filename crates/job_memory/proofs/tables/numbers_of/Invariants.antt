use Rattle.std.proofs.Common.{◌≡◌, take}
use Rattle.std.specs.Prelude.{map}
use Rattle.job_memory.specs.Contents.{number_of}
use Rattle.job_memory.proofs.tables.numbers_of.Given as goal

abbrev pub invariant-loop-content : goal.invariant-loop-content
invariant-loop-content l = l.numbers.items ≡ map number_of (take l.content-index l.cells)
