use Rattle.basic_line.proofs.ParsedLines.{one_place}
use Rattle.basic_line.proofs.lines.add_statement.Goals as goal

pub returns-in_ok-push-in-Some : goal.returns-in_ok-push-in-Some
returns-in_ok-push-in-Some c =
    let read = c.in_ok-statement-in-Some in
    one_place c.args.words.now c.args.from read.field-0.end read.field-0.value c.args.statements.now.items _ read.ensures.0 read.ensures.1 c.in_ok-push-in-Some.ensures.items
