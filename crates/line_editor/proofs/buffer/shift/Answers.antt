use Rattle.std.proofs.Common.{arith}
use Rattle.line_editor.proofs.ShiftLemmas.{moved_first, moved_more}
use Rattle.line_editor.proofs.buffer.shift.Goals as goal

pub loop-place-init : goal.loop-place-init
loop-place-init c =
    moved_first c.args.removed c.args.added c.args.from c.args.marks.now.items c.requires.within

pub loop-place-preserved : goal.loop-place-preserved
loop-place-preserved c =
    moved_more c.args.removed c.args.added c.args.from c.args.marks.now.items c.requires.within c.loop-place.place c.loop-place.marks.items c.index-mark.result.now
    c.loop-place.auto.place (omega (arith, c.loop-place-test.true, c.len-place-end.ensures, c.args.marks.now.ok.0)) c.index-mark.ensures c.loop-place.invariant
