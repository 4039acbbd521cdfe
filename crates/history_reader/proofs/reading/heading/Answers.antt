use Rattle.std.proofs.Common.{sym, ◌∙◌}
use Rattle.history_reader.proofs.LineLaws.{no_line_no_heading, no_count, found_heading}
use Rattle.history_reader.proofs.reading.heading.Goals as goal

pub returns-in_err-line : goal.returns-in_err-line
returns-in_err-line c = rw c.from_residual.ensures (no_line_no_heading c.args.text.now c.in_err-line.ensures.parts)

pub returns-then-is_allowed : goal.returns-then-is_allowed
returns-then-is_allowed c =
    found_heading c.args.text.now c.in_ok-line.line.now c.in_ok-line.rest.now c.in_ok-count.count.now c.in_ok-line.ensures.parts c.in_ok-count.ensures (sym c.is_allowed.ensures ∙ c.if-is_allowed.true)

pub returns-else-is_allowed : goal.returns-else-is_allowed
returns-else-is_allowed c =
    no_count c.args.text.now c.in_ok-line.line.now c.in_ok-line.rest.now c.in_ok-count.count.now c.in_ok-line.ensures.parts c.in_ok-count.ensures (sym c.is_allowed.ensures ∙ c.if-is_allowed.false)
