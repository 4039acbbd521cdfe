use Rattle.std.proofs.Common.{List, map, refl}
use Rattle.basic_tree.specs.declared.parts.FieldPart.{FieldPart}
use Rattle.basic_tree.specs.TreeViews.{field_part_of}
use Rattle.statement_walk.proofs.Showing.{shown_on}
use Rattle.statement_walk.proofs.walk.visit_widths.Goals as goal

pub loop-field-preserved : goal.loop-field-preserved
loop-field-preserved g c =
    shown_on g.V.Visitor.after (λ (l : List FieldPart). map (λ part. part.width) (map field_part_of l)) (λ (x : FieldPart). (field_part_of x).width) (λ x l. refl) _ _ _ _ c.args.fields.now c.loop-field.field-index c.loop-field-test.true c.field-item.is c.in_ok-visit_tree.ensures c.loop-field.invariant
