use Rattle.std.proofs.Common.{List, map, refl}
use Rattle.basic_tree.specs.declared.parts.PrintItem.{PrintItem}
use Rattle.basic_tree.specs.TreeViews.{item_of}
use Rattle.program_model.specs.Parts.{printed_expression}
use Rattle.statement_walk.proofs.Showing.{shown_on}
use Rattle.statement_walk.proofs.walk.visit_items.Goals as goal

pub loop-item-preserved : goal.loop-item-preserved
loop-item-preserved g c =
    shown_on g.V.Visitor.after (λ (l : List PrintItem). map (λ item. printed_expression item.printed) (map item_of l)) (λ (x : PrintItem). printed_expression (item_of x).printed) (λ x l. refl) _ _ _ _ c.args.items.now c.loop-item.item-index c.loop-item-test.true c.item-item.is c.in_ok-visit_printed.ensures c.loop-item.invariant
