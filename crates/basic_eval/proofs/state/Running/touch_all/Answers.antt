use Rattle.basic_eval.specs.Acting.{seen}
use Rattle.program_model.specs.MatrixStatements.{touched}
use Rattle.basic_eval.proofs.MatrixLoops.{each_further}
use Rattle.basic_eval.proofs.state.Running.touch_all.Goals as goal

pub loop-name-preserved : goal.loop-name-preserved
loop-name-preserved c =
    each_further touched c.args.names.now c.loop-name.name-index _ (seen c.loop-name.self) (seen c.touch.new.self) _ c.loop-name-test.true c.loop-name.invariant c.in_ok-touch.ensures
