use Rattle.std.proofs.Common.{◌≡◌, drop}
use Rattle.std.specs.List.{range_with_len}
use Rattle.basic_eval.specs.Acting.{seen}
use Rattle.program_model.specs.MatrixStatements.{rows_written}
use Rattle.basic_eval.proofs.state.Running.print_matrix.Given as goal

-- what is left to be written leads to the same end as the whole, and the memory stays
abbrev pub invariant-loop-before : goal.invariant-loop-before
invariant-loop-before l = record {
  memory : l.self.storage.memory ≡ l.fn.self.storage.memory;
  rows : rows_written l.separator l.name (drop l.before (range_with_len 1 l.rows)) (seen l.self) ≡ rows_written l.separator l.name (range_with_len 1 l.rows) (seen l.fn.self);
}
