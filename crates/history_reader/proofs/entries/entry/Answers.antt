use Rattle.history_reader.proofs.LineLaws.{no_line_no_entry, takes_entry}
use Rattle.history_reader.proofs.entries.entry.Goals as goal

pub returns-in-Some : goal.returns-in-Some
returns-in-Some c =
    takes_entry (λ x. (x.0, x.1.now)) c.args.text.now c.in-Some.line.now c.in-Some.field-0-1.now c.taken.result c.in-Some.ensures.parts c.taken.ensures.read c.taken.ensures.proper

pub returns-in-None : goal.returns-in-None
returns-in-None c = no_line_no_entry c.args.text.now c.in-None.ensures.parts
