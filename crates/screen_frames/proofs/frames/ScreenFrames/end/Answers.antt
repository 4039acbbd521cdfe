use Rattle.std.proofs.Common.{refl}
use Rattle.screen_frames.proofs.Together.{framed_same}
use Rattle.screen_frames.specs.declared.frames.Frame.TheVariants.{Ends}
use Rattle.screen_frames.proofs.frames.ScreenFrames.end.Goals as goal

pub invariant_of-self : goal.invariant_of-self
invariant_of-self g c = record { framed = framed_same _ _ c.args.self.now.shown.items Ends c.args.self.now.framed c.push_waiting.ensures.sent refl }
