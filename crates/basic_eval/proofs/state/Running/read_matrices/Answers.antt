use Rattle.basic_tree.specs.declared.names.Name.{Name}
use Rattle.basic_matrix.specs.MatrixShapes.{shape_of}
use Rattle.program_model.specs.Job.{Job}
use Rattle.program_model.specs.MatrixStatements.{read_matrix}
use Rattle.polish_code.specs.Walk.{Spot}
use Rattle.basic_eval.specs.Acting.{seen}
use Rattle.basic_eval.proofs.MatrixLoops.{each_further, each_breaks}
use Rattle.basic_eval.proofs.state.Running.read_matrices.Goals as goal

pub loop-name-preserved : goal.loop-name-preserved
loop-name-preserved c =
    each_further (λ (x : Name) (j : Job Spot). read_matrix c.args.words.now x (shape_of j.memory x) j) c.args.names.now c.loop-name.name-index _ (seen c.loop-name.self) (seen c.read_matrix.new.self) _ c.loop-name-test.true c.loop-name.invariant c.in_ok-read_matrix.ensures

pub returns-in_err-read_matrix : goal.returns-in_err-read_matrix
returns-in_err-read_matrix c =
    rw c.from_residual.ensures (each_breaks (λ (x : Name) (j : Job Spot). read_matrix c.args.words.now x (shape_of j.memory x) j) c.args.names.now c.loop-name.name-index _ (seen c.loop-name.self) (seen c.read_matrix.new.self) _ c.loop-name-test.true c.loop-name.invariant c.read_matrix.new.self.exit c.in_err-read_matrix.ensures)
