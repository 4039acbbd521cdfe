use Rattle.std.proofs.Common.{◌≡◌, map, drop}
use Rattle.basic_tree.specs.TreeViews.{using_item_of}
use Rattle.statement_walk.specs.Walk.{visited_trees}
use Rattle.statement_walk.proofs.walk.visit_values.Given as goal

abbrev pub invariant-loop-item : goal.invariant-loop-item
invariant-loop-item g l = visited_trees g.V.Visitor.after l.visitor (map (λ item. item.value) (map using_item_of (drop l.item-index l.values))) ≡ visited_trees g.V.Visitor.after l.fn.visitor (map (λ item. item.value) (map using_item_of l.values))
