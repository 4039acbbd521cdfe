use Rattle.std.proofs.Common.{List, map, refl}
use Rattle.basic_tree.specs.declared.parts.Target.{Target}
use Rattle.basic_tree.specs.TreeViews.{target_of}
use Rattle.statement_walk.proofs.Showing.{shown_on}
use Rattle.statement_walk.proofs.walk.visit_targets.Goals as goal

pub loop-target-preserved : goal.loop-target-preserved
loop-target-preserved g c =
    shown_on g.V.Visitor.after (λ (l : List Target). map target_of l) (λ (x : Target). target_of x) (λ x l. refl) _ _ _ _ c.args.targets.now c.loop-target.target-index c.loop-target-test.true c.target-item.is c.in_ok-visit.ensures c.loop-target.invariant
