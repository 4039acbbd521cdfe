use Rattle.std.proofs.Common.{◌≡◌, drop}
use Rattle.basic_eval.specs.Acting.{seen}
use Rattle.program_model.specs.MatrixStatements.{read_matrices}
use Rattle.basic_eval.proofs.state.Running.read_matrices.Given as goal

-- what is left to be done leads to the same end as the whole
abbrev pub invariant-loop-name : goal.invariant-loop-name
invariant-loop-name l = read_matrices l.words (drop l.name-index l.names) (seen l.self) ≡ read_matrices l.words l.names (seen l.fn.self)
