use Rattle.std.proofs.Common.{List, map, refl, sym, ap, ◌∙◌, arith}
use Rattle.basic_tree.specs.declared.parts.FieldPart.{FieldPart}
use Rattle.basic_tree.specs.Trees.{FieldPartTree}
use Rattle.basic_tree.specs.TreeViews.{tree_of, field_part_of}
use Rattle.program_model.specs.FileStatements.{in_order}
use Rattle.lowering.specs.Emission.{with_expression, with_trees}
use Rattle.lowering.proofs.Steps.{back_step}
use Rattle.lowering.proofs.field_items.emit_widths.Goals as goal

pub loop-place-preserved : goal.loop-place-preserved
loop-place-preserved g c =
    let program = g.L.Lookups.program c.args.tables.now in
    let here = c.in_ok-emit_expr.ensures ∙ ap (λ (p : FieldPart). with_expression g.K.Sink.with program (tree_of p.width) c.loop-place.code) (sym c.index-parts-place.is) in
    back_step (λ (ps : List FieldPart). with_trees g.K.Sink.with program (in_order (map (λ (part : FieldPartTree). part.width) (map field_part_of ps))) c.args.code.now) (λ p is. with_expression g.K.Sink.with program (tree_of p.width) is) (λ p ps. refl) c.args.parts.now c.loop-place.place _ _ _ c.index-parts-place.is (omega arith) (omega arith) c.loop-place.invariant here
