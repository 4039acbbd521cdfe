use Rattle.std.proofs.Common.{◌≡◌, length}
use Rattle.deck_model.specs.DiskTexts.{without_zeros}
use Rattle.disk_texts.proofs.contents.without_zeros.Given as goal

abbrev pub invariant-loop-kept : goal.invariant-loop-kept
invariant-loop-kept l = without_zeros l.bytes ≡ without_zeros l.kept

abbrev pub decreases-loop-kept : goal.decreases-loop-kept
decreases-loop-kept l = length l.kept
