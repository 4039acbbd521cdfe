use Rattle.std.proofs.Common.{◌≡◌, drop}
use Rattle.basic_eval.specs.Acting.{seen}
use Rattle.program_model.specs.MatrixStatements.{one_by_one, touched, touch_all}
use Rattle.basic_eval.proofs.state.Running.touch_all.Given as goal

-- what is left to be done leads to the same end as the whole
abbrev pub invariant-loop-name : goal.invariant-loop-name
invariant-loop-name l = one_by_one touched (drop l.name-index l.names) (seen l.self) ≡ touch_all l.names (seen l.fn.self)
