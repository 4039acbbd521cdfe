use Rattle.std.proofs.Common.{◌≡◌, drop}
use Rattle.basic_eval.specs.Acting.{seen}
use Rattle.program_model.specs.Running.{dimension_all}
use Rattle.basic_interpreter.proofs.dimensions.dimension_all.Given as goal

-- what is left to be done leads to the same end as the whole
abbrev pub invariant-loop-shape : goal.invariant-loop-shape
invariant-loop-shape l = dimension_all (drop l.shape-index l.shapes) (seen l.state) ≡ dimension_all l.shapes (seen l.fn.state)
