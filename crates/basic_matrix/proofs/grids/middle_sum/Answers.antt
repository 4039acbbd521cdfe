use Rattle.basic_matrix.specs.MatrixSources.{grid_at}
use Rattle.basic_matrix.proofs.SumLemmas.{middle_sum-more}
use Rattle.basic_matrix.proofs.grids.middle_sum.Goals as goal

pub loop-before-preserved : goal.loop-before-preserved
loop-before-preserved c =
    let more = middle_sum-more (grid_at c.args.left.now) (grid_at c.args.right.now) c.loop-before.before c.args.row c.args.column in
    cc
