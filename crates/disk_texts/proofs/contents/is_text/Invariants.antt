use Rattle.std.proofs.Common.{◌≡◌, length}
use Rattle.deck_model.specs.DiskTexts.{is_text}
use Rattle.disk_texts.proofs.contents.is_text.Given as goal

abbrev pub invariant-loop-line : goal.invariant-loop-line
invariant-loop-line l = is_text l.bytes ≡ is_text l.rest

abbrev pub decreases-loop-line : goal.decreases-loop-line
decreases-loop-line l = length l.rest
