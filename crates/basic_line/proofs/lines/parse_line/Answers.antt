use Rattle.std.proofs.Common.{arith, refl}
use Rattle.basic_line.proofs.ParsedLines.{read_answer, failure_answer}
use Rattle.basic_line.proofs.lines.parse_line.Goals as goal

pub returns-then-place-count : goal.returns-then-place-count
returns-then-place-count c = record { exact = read_answer c.args.tokens.now _ c.in-Ok.field-0.end c.in-Ok.field-0.value.items (record { statements = c.in-Ok.field-0.value }) c.in_ok-words.ensures (omega arith) c.in-Ok.ensures refl }

pub returns : goal.returns
returns c = record { exact = failure_answer c.args.tokens.now _ c.trouble-in-Err.result c.in-Err.failure c.in_ok-words.ensures c.in-Err.ensures.0 c.in-Err.ensures.1 c.trouble-in-Err.ensures }
