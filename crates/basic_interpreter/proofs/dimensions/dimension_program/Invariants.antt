use Rattle.std.proofs.Common.{◌≡◌}
use Rattle.basic_eval.specs.Acting.{seen}
use Rattle.program_model.specs.InMemory.{program_of}
use Rattle.program_model.specs.Running.{dimension_program}
use Rattle.basic_interpreter.proofs.dimensions.dimension_program.Given as goal

-- what is left to be done leads to the same end as the whole
abbrev pub invariant-loop-number : goal.invariant-loop-number
invariant-loop-number l = dimension_program (program_of l.number-iterator) (seen l.state) ≡ dimension_program (program_of l.lines.lines.entries) (seen l.fn.state)
