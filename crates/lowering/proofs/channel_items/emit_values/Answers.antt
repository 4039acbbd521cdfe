use Rattle.std.proofs.Common.{List, map, refl, sym, ap, ◌∙◌, arith}
use Rattle.std.specs.Prelude.{option_map}
use Rattle.basic_tree.specs.declared.parts.UsingItem.{UsingItem}
use Rattle.basic_tree.specs.TreeViews.{tree_of, using_item_of}
use Rattle.program_model.specs.FileStatements.{in_order}
use Rattle.program_model.specs.PrintingOnChannels.{used_values}
use Rattle.lowering.specs.Emission.{with_expression, with_trees}
use Rattle.lowering.proofs.Steps.{back_step}
use Rattle.lowering.proofs.channel_items.emit_values.Goals as goal

pub loop-place-preserved : goal.loop-place-preserved
loop-place-preserved g c =
    let program = g.L.Lookups.program c.args.tables.now in
    let here = c.in_ok-emit_expr.ensures ∙ ap (λ (v : UsingItem). with_expression g.K.Sink.with program (tree_of v.value) c.loop-place.code) (sym c.index-values-place.is) in
    back_step (λ (vs : List UsingItem). with_trees g.K.Sink.with program (in_order (used_values (map using_item_of vs) (option_map tree_of c.args.last.now))) c.args.code.now) (λ v is. with_expression g.K.Sink.with program (tree_of v.value) is) (λ v vs. refl) c.args.values.now c.loop-place.place _ _ _ c.index-values-place.is (omega arith) (omega arith) c.loop-place.invariant here
