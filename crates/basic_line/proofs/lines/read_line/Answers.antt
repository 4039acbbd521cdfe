use Rattle.std.proofs.Common.{sym}
use Rattle.basic_line.proofs.ReadLines.{parsed_reads, reads_must_read, reads_must_refuse}
use Rattle.basic_line.proofs.lines.read_line.Goals as goal

pub returns-in-Ok-clause-must_read : goal.returns-in-Ok-clause-must_read
returns-in-Ok-clause-must_read c = reads_must_read c.args.line.now c.parse_line.result (parsed_reads c.args.line.now c.in-Ok.tokens c.parse_line.result (sym c.in-Ok.ensures.exact) c.parse_line.ensures.exact)

pub returns-in-Ok-clause-must_refuse : goal.returns-in-Ok-clause-must_refuse
returns-in-Ok-clause-must_refuse c = reads_must_refuse c.args.line.now c.parse_line.result (parsed_reads c.args.line.now c.in-Ok.tokens c.parse_line.result (sym c.in-Ok.ensures.exact) c.parse_line.ensures.exact)
