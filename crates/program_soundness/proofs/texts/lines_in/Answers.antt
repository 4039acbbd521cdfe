use Rattle.program_soundness.specs.Listings.{text_of}
use Rattle.program_soundness.proofs.TextLemmas.{line_passed, lines_ended}
use Rattle.program_soundness.proofs.texts.lines_in.Goals as goal

pub loop-number-preserved : goal.loop-number-preserved
loop-number-preserved c =
    line_passed (text_of c.loop-number.texts.items) (text_of c.add_text.new.texts.items) c.in-Some.number.now c.in-Some.line.now c.loop-number.number-iterator c.next.new.self _ c.in_ok-add_text.ensures c.in-Some.ensures.steps c.loop-number.invariant

pub returns : goal.returns
returns c = lines_ended c.loop-number.texts.items c.loop-number.number-iterator _ c.in-None.ensures.steps.0 c.loop-number.invariant
