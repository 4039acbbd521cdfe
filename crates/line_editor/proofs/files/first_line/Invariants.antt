use Rattle.std.proofs.Common.{◌≡◌, ℕ, ◌<◌, false, get_or}
use Rattle.basic_tree.specs.FileLines.{is_line_feed}
use Rattle.line_editor.proofs.files.first_line.Given as goal

abbrev pub invariant-loop-place : goal.invariant-loop-place
invariant-loop-place l = (k : ℕ) → k < l.place → is_line_feed (get_or l.text k 0) ≡ false
