use Rattle.std.proofs.Common.{length}
use Rattle.basic_tree.specs.FileLines.{file_lines}
use Rattle.line_editor.proofs.KeepLemmas.{KeptSoFar}
use Rattle.line_editor.proofs.text.ProgramText.keep_all.Given as goal

abbrev pub invariant-loop-left : goal.invariant-loop-left
invariant-loop-left l = KeptSoFar (file_lines l.bytes) l.fn.self (file_lines l.left) l.self

abbrev pub decreases-loop-left : goal.decreases-loop-left
decreases-loop-left l = length l.left
