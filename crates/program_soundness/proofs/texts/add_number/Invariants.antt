use Rattle.std.proofs.Common.{◌≡◌, ◌++◌, map, drop}
use Rattle.basic_tree.specs.StatementViews.{statement_of, line_of}
use Rattle.program_soundness.proofs.texts.add_number.Given as goal

-- those so far and those to come are all
abbrev pub invariant-loop-statement : goal.invariant-loop-statement
invariant-loop-statement l = l.numbers.items ++ map (λ s. l.number) (map statement_of (drop l._statement-index l._statement-items)) ≡ l.fn.numbers.items ++ map (λ s. l.number) (line_of l.line)
