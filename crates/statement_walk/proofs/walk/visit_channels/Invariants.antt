use Rattle.std.proofs.Common.{◌≡◌, map, drop}
use Rattle.basic_tree.specs.TreeViews.{close_channel_of}
use Rattle.statement_walk.specs.Walk.{visited_trees}
use Rattle.statement_walk.proofs.walk.visit_channels.Given as goal

abbrev pub invariant-loop-channel : goal.invariant-loop-channel
invariant-loop-channel g l = visited_trees g.V.Visitor.after l.visitor (map (λ c. c.number) (map close_channel_of (drop l.channel-index l.channels))) ≡ visited_trees g.V.Visitor.after l.fn.visitor (map (λ c. c.number) (map close_channel_of l.channels))
