use Rattle.std.proofs.Common.{rules}
use Rattle.statement_parts.proofs.Steps.{on_err}
use Rattle.basic_line.specs.Structure.{StatesAll}
use Rattle.basic_line.proofs.ParsedLines.{line_stops_later}
use Rattle.basic_line.proofs.lines.all_statements.Goals as goal

pub returns-in_err-place-2 : goal.returns-in_err-place-2
returns-in_err-place-2 c =
    let e = c.in_err-place-2 in
    on_err (StatesAll c.args.words.now) _ e.field-0.0 (search rules)
    (e.ensures.0, line_stops_later c.args.words.now c.others.place c.others.statements.items e.field-0.0 c.others.invariant c.others-test.ensures.stands e.ensures.1)
