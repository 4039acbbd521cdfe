use Rattle.std.proofs.Common.{◌≡◌, drop, map}
use Rattle.basic_eval.specs.Acting.{seen}
use Rattle.basic_tree.specs.StatementViews.{statement_of}
use Rattle.program_model.specs.Running.{dimension_in}
use Rattle.basic_interpreter.proofs.dimensions.dimension_line.Given as goal

-- what is left to be done leads to the same end as the whole
abbrev pub invariant-loop-statement : goal.invariant-loop-statement
invariant-loop-statement l = dimension_in (map statement_of (drop l.statement-index l.statements)) (seen l.state) ≡ dimension_in (map statement_of l.statements) (seen l.fn.state)
