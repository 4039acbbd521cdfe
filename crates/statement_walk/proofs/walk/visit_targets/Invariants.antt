use Rattle.std.proofs.Common.{◌≡◌, map, drop}
use Rattle.basic_tree.specs.TreeViews.{target_of}
use Rattle.statement_walk.specs.Walk.{visited_trees}
use Rattle.statement_walk.proofs.walk.visit_targets.Given as goal

abbrev pub invariant-loop-target : goal.invariant-loop-target
invariant-loop-target g l = visited_trees g.V.Visitor.after l.visitor (map target_of (drop l.target-index l.targets)) ≡ visited_trees g.V.Visitor.after l.fn.visitor (map target_of l.targets)
