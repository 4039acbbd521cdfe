use Rattle.std.proofs.Common.{◌≡◌, ◌+◌, ◌≤◌, length}
use Rattle.deck_model.specs.Lines.{whole_lines, cut_line}
use Rattle.deck_model.specs.Reading.{reading, verdict}
use Rattle.deck_reader.specs.Seen.{front_of}
use Rattle.deck_reader.proofs.reading.judged.Given as goal

abbrev pub invariant-loop-line : goal.invariant-loop-line
invariant-loop-line l = record {
  told : verdict l.bytes ≡ reading (front_of l.front) l.number (whole_lines l.rest) (cut_line l.rest);
  few : l.number + length l.rest ≤ 268435457;
}

abbrev pub decreases-loop-line : goal.decreases-loop-line
decreases-loop-line l = length l.rest
