use Rattle.std.proofs.Common.{◌≡◌, ℕ, Some, drop}
use Rattle.basic_eval.specs.Acting.{seen}
use Rattle.std.specs.List.{range_with_len}
use Rattle.program_model.specs.MatrixStatements.{one_by_one, at_column, read_element, read_row}
use Rattle.basic_eval.proofs.state.Running.read_columns.Given as goal

-- what is left to be done leads to the same end as the whole
abbrev pub invariant-loop-before : goal.invariant-loop-before
invariant-loop-before l =
    one_by_one (λ (column : ℕ). read_element l.words l.name (at_column l.row column)) (drop l.before (range_with_len 1 l.last)) (seen l.self)
    ≡ read_row l.words l.name (Some l.last) l.row (seen l.fn.self)
