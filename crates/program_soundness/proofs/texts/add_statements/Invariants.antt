use Rattle.std.proofs.Common.{◌≡◌, ◌++◌, map, drop}
use Rattle.basic_tree.specs.StatementViews.{statement_of, line_of}
use Rattle.program_soundness.proofs.texts.add_statements.Given as goal

-- those so far and those to come are all
abbrev pub invariant-loop-statement : goal.invariant-loop-statement
invariant-loop-statement l = map (λ r. statement_of r.now) l.all.items ++ map statement_of (drop l.statement-index l.statement-items) ≡ map (λ r. statement_of r.now) l.fn.all.items ++ line_of l.line
