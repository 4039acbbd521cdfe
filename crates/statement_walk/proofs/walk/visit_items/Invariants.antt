use Rattle.std.proofs.Common.{◌≡◌, map, drop}
use Rattle.basic_tree.specs.TreeViews.{item_of}
use Rattle.program_model.specs.Parts.{printed_expression}
use Rattle.statement_walk.specs.Walk.{visited_trees}
use Rattle.statement_walk.proofs.walk.visit_items.Given as goal

abbrev pub invariant-loop-item : goal.invariant-loop-item
invariant-loop-item g l = visited_trees g.V.Visitor.after l.visitor (map (λ item. printed_expression item.printed) (map item_of (drop l.item-index l.items))) ≡ visited_trees g.V.Visitor.after l.fn.visitor (map (λ item. printed_expression item.printed) (map item_of l.items))
