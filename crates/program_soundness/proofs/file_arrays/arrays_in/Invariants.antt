use Rattle.std.proofs.Common.{◌≡◌, ◌++◌, map, drop}
use Rattle.std.specs.List.{flat_map}
use Rattle.basic_tree.specs.StatementViews.{statement_of}
use Rattle.program_model.specs.FileArrays.{arrays_by}
use Rattle.program_soundness.proofs.file_arrays.arrays_in.Given as goal

abbrev pub invariant-loop-statement : goal.invariant-loop-statement
invariant-loop-statement l = l.arrays.items ++ flat_map arrays_by (map (λ r. statement_of r.now) (drop l.statement-index l.all)) ≡ flat_map arrays_by (map (λ r. statement_of r.now) l.all)
