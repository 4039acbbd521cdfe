use Rattle.std.proofs.Common.{length}
use Rattle.line_editor.proofs.PageLemmas.{PagedSoFar}
use Rattle.line_editor.proofs.files.pages_of.Given as goal

abbrev pub invariant-loop-left : goal.invariant-loop-left
invariant-loop-left l = PagedSoFar l.bytes l.pages.items l.left

abbrev pub decreases-loop-left : goal.decreases-loop-left
decreases-loop-left l = length l.left
