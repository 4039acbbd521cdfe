use Rattle.std.proofs.Common.{◌≡◌}
use Rattle.basic_values.specs.Numbers.{wrap}
use Rattle.basic_matrix.specs.MatrixSources.{grid_at}
use Rattle.basic_matrix.specs.MatrixValues.{middle_sum}
use Rattle.basic_matrix.proofs.grids.middle_sum.Given as goal

abbrev pub invariant-loop-before : goal.invariant-loop-before
invariant-loop-before l = l.sum ≡ wrap (middle_sum (grid_at l.left) (grid_at l.right) l.before l.row l.column)
