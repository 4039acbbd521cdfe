use Rattle.std.proofs.Common.{◌++◌, map}
use Rattle.deck_model.specs.Spelling.{content_line}
use Rattle.deck_model.specs.DiskTexts.{text_lines, text_of_lines}
use Rattle.disk_texts.proofs.TextLemmas.{line_pushed, lines_pushed}
use Rattle.disk_texts.proofs.files.push_text.Goals as goal

pub loop-line-preserved : goal.loop-line-preserved
loop-line-preserved c =
    line_pushed (c.args.out.now.items ++ text_of_lines (map content_line (text_lines c.args.text.now))) c.loop-line.out.items c.loop-line.rest.now
    c.push_text_line.new.out.items c.in-Some.line.now c.in-Some.after.now c.in-Some.ensures.line.0 c.in_ok-push_text_line.ensures c.loop-line.invariant

pub returns : goal.returns
returns c =
    lines_pushed (c.args.out.now.items ++ text_of_lines (map content_line (text_lines c.args.text.now))) c.loop-line.out.items c.loop-line.rest.now
    c.in_default.ensures.line.0 c.loop-line.invariant
