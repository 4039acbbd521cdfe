use Rattle.std.proofs.Common.{◌≡◌, drop}
use Rattle.basic_eval.specs.Acting.{seen}
use Rattle.program_model.specs.MatrixStatements.{numbers_written}
use Rattle.basic_eval.proofs.state.Running.write_numbers.Given as goal

-- what is left to be written leads to the same end as the whole
abbrev pub invariant-loop-place : goal.invariant-loop-place
invariant-loop-place l = numbers_written l.separator (drop l.place l.numbers) (seen l.self) ≡ numbers_written l.separator l.numbers (seen l.fn.self)
