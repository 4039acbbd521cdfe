use Rattle.std.proofs.Common.{rules}
use Rattle.basic_tree.specs.StatementViews.{statement_of}
use Rattle.statement_parts.proofs.Steps.{on_err}
use Rattle.basic_line.specs.Structure.{StatesSimple}
use Rattle.basic_line.proofs.ClauseSteps.{simple_line_stops, simple_clause_stops, simple_modified}
use Rattle.basic_line.proofs.choices.simple_at.Goals as goal

pub returns-in_err-statement : goal.returns-in_err-statement
returns-in_err-statement c =
    let e = c.in_err-statement in
    on_err (StatesSimple c.args.levels c.args.words.now c.args.from) _ e.field-0.0 (search rules)
    (e.ensures.0, simple_line_stops _ _ _ _ c.requires.sentence e.ensures.1, simple_clause_stops _ _ _ _ c.requires.sentence e.ensures.1)

pub returns : goal.returns
returns c =
    let plain = c.in_ok-statement in
    simple_modified c.args.levels c.args.words.now c.args.from plain.field-0.end (statement_of plain.field-0.value) c.modifiers.result c.requires.sentence plain.ensures.0 plain.ensures.1 c.modifiers.ensures
