use Rattle.line_editor.proofs.MarkLemmas.{no_lines}
use Rattle.line_editor.proofs.buffer.LineBuffer.new.Goals as goal

pub invariant_of-result : goal.invariant_of-result
invariant_of-result c =
    no_lines c.new.result.items c.new-2.result.items c.new.ensures.items c.new-2.ensures.items
