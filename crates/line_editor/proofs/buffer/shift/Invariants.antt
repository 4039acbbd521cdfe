use Rattle.line_editor.proofs.ShiftLemmas.{MovedSoFar}
use Rattle.line_editor.proofs.buffer.shift.Given as goal

abbrev pub invariant-loop-place : goal.invariant-loop-place
invariant-loop-place l = MovedSoFar l.removed l.added l.from l.place l.initial.marks.items l.marks.items
