use Rattle.std.proofs.Common.{◌≡◌, ◌++◌, take, drop}
use Rattle.std.specs.Prelude.{map}
use Rattle.std.specs.Option.{option_map}
use Rattle.job_memory.specs.Contents.{forgotten}
use Rattle.job_memory.proofs.fielded.forget_rows.Given as goal

abbrev pub invariant-loop-row : goal.invariant-loop-row
invariant-loop-row l = l.rows ≡ map (map (option_map (forgotten l.closed))) (take l.row-index l.initial.rows) ++ drop l.row-index l.initial.rows
