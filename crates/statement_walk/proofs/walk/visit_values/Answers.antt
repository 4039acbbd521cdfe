use Rattle.std.proofs.Common.{List, map, refl}
use Rattle.basic_tree.specs.declared.parts.UsingItem.{UsingItem}
use Rattle.basic_tree.specs.TreeViews.{using_item_of}
use Rattle.statement_walk.proofs.Showing.{shown_on}
use Rattle.statement_walk.proofs.walk.visit_values.Goals as goal

pub loop-item-preserved : goal.loop-item-preserved
loop-item-preserved g c =
    shown_on g.V.Visitor.after (λ (l : List UsingItem). map (λ item. item.value) (map using_item_of l)) (λ (x : UsingItem). (using_item_of x).value) (λ x l. refl) _ _ _ _ c.args.values.now c.loop-item.item-index c.loop-item-test.true c.item-item.is c.in_ok-visit_tree.ensures c.loop-item.invariant
