use Rattle.std.proofs.Common.{List, map, refl}
use Rattle.basic_tree.specs.declared.parts.CloseChannel.{CloseChannel}
use Rattle.basic_tree.specs.TreeViews.{close_channel_of}
use Rattle.statement_walk.proofs.Showing.{shown_on}
use Rattle.statement_walk.proofs.walk.visit_channels.Goals as goal

pub loop-channel-preserved : goal.loop-channel-preserved
loop-channel-preserved g c =
    shown_on g.V.Visitor.after (λ (l : List CloseChannel). map (λ c. c.number) (map close_channel_of l)) (λ (x : CloseChannel). (close_channel_of x).number) (λ x l. refl) _ _ _ _ c.args.channels.now c.loop-channel.channel-index c.loop-channel-test.true c.channel-item.is c.in_ok-visit_tree.ensures c.loop-channel.invariant
