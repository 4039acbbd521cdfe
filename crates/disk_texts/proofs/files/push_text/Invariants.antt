use Rattle.std.proofs.Common.{◌≡◌, ◌++◌, length, map}
use Rattle.deck_model.specs.Spelling.{content_line}
use Rattle.deck_model.specs.DiskTexts.{text_lines, text_of_lines}
use Rattle.disk_texts.proofs.files.push_text.Given as goal

abbrev pub invariant-loop-line : goal.invariant-loop-line
invariant-loop-line l =
    l.out.items ++ text_of_lines (map content_line (text_lines l.rest))
    ≡ l.initial.out.items ++ text_of_lines (map content_line (text_lines l.text))

abbrev pub decreases-loop-line : goal.decreases-loop-line
decreases-loop-line l = length l.rest
