use Rattle.std.proofs.Common.{◌≡◌, drop}
use Rattle.basic_eval.specs.Acting.{seen}
use Rattle.std.specs.List.{range_with_len}
use Rattle.program_model.specs.MatrixStatements.{one_by_one, read_row}
use Rattle.basic_eval.proofs.state.Running.read_matrix.Given as goal

-- what is left to be done leads to the same end as the whole
abbrev pub invariant-loop-before : goal.invariant-loop-before
invariant-loop-before l =
    one_by_one (read_row l.words l.name l.last) (drop l.before (range_with_len 1 l.rows)) (seen l.self)
    ≡ one_by_one (read_row l.words l.name l.last) (range_with_len 1 l.rows) (seen l.fn.self)
