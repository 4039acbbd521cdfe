use Rattle.std.proofs.Common.{◌≡◌, drop}
use Rattle.std.specs.Prelude.{find}
use Rattle.std.specs.Map.{lookup}
use Rattle.basic_tree.specs.declared.names.Name.{Name}
use Rattle.job_memory.specs.Names.{at_name}
use Rattle.program_soundness.proofs.file_arrays.by_name.Given as goal

abbrev pub invariant-loop-place : goal.invariant-loop-place
invariant-loop-place l = (x : Name) → lookup (at_name x) l.named.entries ≡ find (λ array. at_name x array.name) (drop l.place l.arrays)
